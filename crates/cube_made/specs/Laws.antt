-- The made texts are read, whatever the number and the size.
use Rattle.std.specs.Prelude.{◌≡◌, ◌≤◌, ℕ, List, map, Ok}
use Rattle.cube_model.specs.declared.request.Request.{Request}
use Rattle.cube_dims.specs.DimsFile.{dims_of}
use Rattle.cube_facts.specs.FactFile.{Fact, facts_of}
use Rattle.cube_policy.specs.PolicyFile.{policy_of}
use Rattle.cube_query.specs.Faults.{request_of}
use Rattle.cube_gen.specs.Made.{made_facts, made_queries}
use Rattle.cube_gen.specs.Tables.{made_dims, made_policy}
use Rattle.cube_made.specs.Values.{dims_said, policy_said}

-- the sizes of made cubes
abbrev pub IsSize : ℕ → Type 0
IsSize s = (1 ≤ s) × (s ≤ 20)

abbrev pub DimsAreRead : Type 0
DimsAreRead = (s : ℕ) → IsSize s → dims_of (made_dims s) ≡ Ok (dims_said s)

abbrev pub PolicyIsRead : Type 0
PolicyIsRead = (s : ℕ) → IsSize s → policy_of (dims_said s) made_policy ≡ Ok policy_said

abbrev pub FactsAreRead : Type 0
FactsAreRead = (number s : ℕ) → IsSize s → (facts : List Fact) × (facts_of (dims_said s) (made_facts number s) ≡ Ok facts)

abbrev pub QueriesAreRead : Type 0
QueriesAreRead = (number s : ℕ) → IsSize s → (requests : List Request) × (map (request_of (dims_said s)) (made_queries number s) ≡ map Ok requests)
