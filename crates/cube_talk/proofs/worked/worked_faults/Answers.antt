use Rattle.std.proofs.Common.{refl}
use Rattle.std.proofs.lemmas.Bool.{false≢true}
use Rattle.cube_talk.proofs.worked.worked_faults.Goals as goal

pub returns-clause-first : goal.returns-clause-first
returns-clause-first c = λ h. (h.1 refl).0 refl refl

pub returns-clause-second : goal.returns-clause-second
returns-clause-second c = λ h. ((h.1 refl).1.1 refl).0 refl refl

pub returns-clause-none : goal.returns-clause-none
returns-clause-none c = (λ t. absurd (false≢true t), λ f. (λ e x. cc, (λ t. absurd (false≢true t), λ g. (λ e x. cc, tt))))
