-- Requests that are asked over a core under a policy.
use Rattle.std.specs.Prelude.{◌≡◌, true}
use Rattle.std.specs.List.{All}
use Rattle.cube_model.specs.Cores.{shown}
use Rattle.cube_model.specs.Cubes.{Public}
use Rattle.cube_model.specs.Policies.{IsPolicy}
use Rattle.cube_model.specs.Requests.{is_valid}
use Rattle.cube_audit.specs.declared.keeping.Asked.{Asked}

-- what everybody knows there
abbrev pub public_of : Asked → Public
public_of a = shown a.core.now a.policy.now

-- the policy is one of the core, and each request is valid
pub record AreValid (a : Asked) : Type 0 where
  pub policy : IsPolicy a.core.now.dims a.policy.now
  pub requests : All (λ r. is_valid (public_of a) r ≡ true) a.requests.now
