-- A request behind a history.
use Rattle.std.specs.Prelude.{◌≡◌, true}
use Rattle.cube_model.specs.declared.verdict.Verdict.{Verdict}
use Rattle.cube_model.specs.Cores.{shown}
use Rattle.cube_model.specs.Cubes.{Public}
use Rattle.cube_model.specs.Policies.{IsPolicy}
use Rattle.cube_model.specs.Requests.{is_valid}
use Rattle.cube_model.specs.Verdicts.{verdict as verdict_of, IsAdmissible}
use Rattle.cube_reason.specs.declared.cases.Case.{Case}
use Rattle.cube_reason.specs.Given.{AreAllowed}

-- what everybody knows there
abbrev pub public_of : Case → Public
public_of x = shown x.core.now x.policy.now

-- the policy is one of the core, what the entries name is there, and the request is valid
pub record IsCase (x : Case) : Type 0 where
  pub policy : IsPolicy x.core.now.dims x.policy.now
  pub allowed : AreAllowed (public_of x) x.history.now
  pub valid : is_valid (public_of x) x.request.now ≡ true

-- the history is admissible, and the verdict is that on the request behind it
pub record IsJudged (x : Case) (v : Verdict) : Type 0 where
  pub admissible : IsAdmissible (public_of x) x.history.now
  pub verdict : v ≡ verdict_of (public_of x) x.history.now x.request.now
