use Rattle.std.proofs.Common.{refl}
use Rattle.std.specs.Fmt.{digits}
use Rattle.cube_model.specs.Cubes.{up, key_at}
use Rattle.cube_model.specs.Protection.{protected, cutting_pairs}
use Rattle.cube_text.specs.Quoting.{is_bare}
use Rattle.cube_advise.proofs.worked.worked_lone.Goals as goal

pub returns-clause-first : goal.returns-clause-first
unfolding digits up key_at protected cutting_pairs is_bare
returns-clause-first c = refl

pub returns-clause-full : goal.returns-clause-full
unfolding digits up key_at protected cutting_pairs is_bare
returns-clause-full c = refl

pub returns-clause-alone : goal.returns-clause-alone
unfolding digits up key_at protected cutting_pairs is_bare
returns-clause-alone c = refl
