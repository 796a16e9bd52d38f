-- What the texts are read as that are made of a number and a size.
use Rattle.std.specs.Prelude.{◌≡◌, ℕ, List, map, Ok}
use Rattle.cube_model.specs.declared.policy.Policy.{Policy}
use Rattle.cube_model.specs.declared.request.Request.{Request}
use Rattle.cube_model.specs.Cores.{Core}
use Rattle.cube_dims.specs.DimsFile.{dims_of}
use Rattle.cube_facts.specs.FactFile.{filled_of}
use Rattle.cube_policy.specs.PolicyFile.{policy_of}
use Rattle.cube_query.specs.Faults.{request_of}
use Rattle.cube_gen.specs.Made.{made_facts, made_queries}
use Rattle.cube_gen.specs.Tables.{made_dims, made_policy}

-- They are read as this core, this policy and these requests.
pub record AreRead (number size : ℕ) (core : Core) (policy : Policy) (requests : List Request) : Type 0 where
  pub dims : dims_of (made_dims size) ≡ Ok core.dims
  pub facts : filled_of core.dims (made_facts number size) ≡ Ok (core.shape, core.cube)
  pub policy_read : policy_of core.dims made_policy ≡ Ok policy
  pub queries : map (request_of core.dims) (made_queries number size) ≡ map Ok requests
