use Rattle.std.proofs.Common.{refl}
use Rattle.std.specs.Fmt.{digits}
use Rattle.cube_model.specs.Cubes.{up, key_at}
use Rattle.cube_text.specs.Quoting.{is_bare}
use Rattle.cube_reason.proofs.worked.worked_reasons.Goals as goal

pub returns-clause-blocks : goal.returns-clause-blocks
unfolding digits up key_at is_bare
returns-clause-blocks c = refl

pub returns-clause-block : goal.returns-clause-block
unfolding digits up key_at is_bare
returns-clause-block c = refl

pub returns-clause-walk : goal.returns-clause-walk
unfolding digits up key_at is_bare
returns-clause-walk c = refl

pub returns-clause-end : goal.returns-clause-end
unfolding digits up key_at is_bare
returns-clause-end c = refl
