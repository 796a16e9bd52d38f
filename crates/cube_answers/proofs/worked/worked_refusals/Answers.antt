use Rattle.std.proofs.Common.{refl}
use Rattle.std.specs.Fmt.{digits}
use Rattle.cube_model.specs.Cubes.{up, key_at}
use Rattle.cube_text.specs.Quoting.{is_bare}
use Rattle.cube_answers.proofs.worked.worked_refusals.Goals as goal

pub returns-clause-full : goal.returns-clause-full
unfolding digits up key_at is_bare
returns-clause-full c = refl

pub returns-clause-source : goal.returns-clause-source
unfolding digits up key_at is_bare
returns-clause-source c = refl

pub returns-clause-all : goal.returns-clause-all
unfolding digits up key_at is_bare
returns-clause-all c = refl

pub returns-clause-all_cells : goal.returns-clause-all_cells
unfolding digits up key_at is_bare
returns-clause-all_cells c = refl

pub returns-clause-pair : goal.returns-clause-pair
unfolding digits up key_at is_bare
returns-clause-pair c = refl

pub returns-clause-single : goal.returns-clause-single
unfolding digits up key_at is_bare
returns-clause-single c = refl
