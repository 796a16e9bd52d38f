use Rattle.std.proofs.Common.{refl}
use Rattle.std.specs.Fmt.{digits}
use Rattle.cube_words.proofs.worked.worked_requests.Goals as goal

pub returns-clause-zeros : goal.returns-clause-zeros
unfolding digits
returns-clause-zeros c = refl

pub returns-clause-too_many : goal.returns-clause-too_many
unfolding digits
returns-clause-too_many c = refl

pub returns-clause-none : goal.returns-clause-none
unfolding digits
returns-clause-none c = refl

pub returns-clause-sign : goal.returns-clause-sign
unfolding digits
returns-clause-sign c = refl
