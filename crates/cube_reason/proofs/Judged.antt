-- What is given of a request behind an admissible history.
use Rattle.std.proofs.Common.{◌≡◌, true, []}
use Rattle.cube_model.specs.Policies.{IsPolicy}
use Rattle.cube_model.specs.Requests.{is_valid}
use Rattle.cube_model.specs.Verdicts.{IsAdmissible}
use Rattle.cube_model.proofs.Histories.{admissible_allowed}
use Rattle.cube_reason.specs.declared.cases.Case.{Case}
use Rattle.cube_reason.specs.Cases.{public_of, IsCase}

pub judged_case : (x : Case) → IsPolicy x.core.now.dims x.policy.now → IsAdmissible (public_of x) x.history.now → is_valid (public_of x) x.request.now ≡ true → IsCase x
judged_case x policy admissible valid = record { policy = policy; allowed = admissible_allowed (public_of x) [] x.history.now admissible; valid = valid }
