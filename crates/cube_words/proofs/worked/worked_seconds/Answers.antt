use Rattle.std.proofs.Common.{refl}
use Rattle.std.specs.Fmt.{digits}
use Rattle.cube_words.proofs.worked.worked_seconds.Goals as goal

pub returns-clause-never : goal.returns-clause-never
unfolding digits
returns-clause-never c = refl

pub returns-clause-a_day : goal.returns-clause-a_day
unfolding digits
returns-clause-a_day c = refl

pub returns-clause-too_long : goal.returns-clause-too_long
unfolding digits
returns-clause-too_long c = refl

pub returns-clause-none : goal.returns-clause-none
unfolding digits
returns-clause-none c = refl
