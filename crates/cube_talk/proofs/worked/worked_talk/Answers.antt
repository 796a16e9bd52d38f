use Rattle.std.proofs.Common.{refl}
use Rattle.std.specs.Fmt.{digits}
use Rattle.cube_talk.proofs.worked.worked_talk.Goals as goal

pub returns-clause-stated : goal.returns-clause-stated
unfolding digits
returns-clause-stated c = refl

pub returns-clause-all : goal.returns-clause-all
unfolding digits
returns-clause-all c = refl

pub returns-clause-no_outcome : goal.returns-clause-no_outcome
unfolding digits
returns-clause-no_outcome c = refl
