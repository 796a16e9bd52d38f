-- Facts that are read from records in blocks, and added up a block at a time.
use Rattle.std.specs.Prelude.{◌≡◌, ℕ, ◌+◌, ◌<◌, ◌≤◌, ◌^◌, slice_index_or, List, [], ◌∷◌, ◌++◌, length, map, Some, Result, ⊤}
use Rattle.cube_model.specs.Checks.{in_turn, unless}
use Rattle.cube_model.specs.Dims.{Dims, IsDims}
use Rattle.cube_model.specs.Protection.{first}
use Rattle.cube_core.specs.Keys.{key_count}
use Rattle.cube_core.proofs.Ranking.{IsWithin}
use Rattle.cube_facts.specs.FactFile.{Fact, facts_in, fact_of, own_faults, record_faults}
use Rattle.cube_facts.specs.Filling.{AreFacts, Gathers, IsFact, IsNoted}
use Rattle.cube_facts.specs.declared.blocks.Held.{Held}
use Rattle.cube_facts.specs.declared.fault.FactsFault.{FactsFault}
use Rattle.cube_facts.specs.declared.totals.Points.{Points}

-- ---- reading

abbrev pub fact_held : Held → Fact
fact_held h = record { leaves = h.leaves.items; units = h.units.items }

-- a record behind so many others has no fault by itself, and says a fact
pub record SaysFact (s : Dims) (header : List (List ℕ)) (count : ℕ) (f : Fact) (row : List (List ℕ)) : Type 0 where
  pub sound : own_faults s header count row ≡ []
  pub is : f ≡ fact_of s header row
  pub rules : IsFact s f
  pub few : count < 1000000

-- the same of records one behind another, each of a fact
abbrev pub SayFacts : Dims → List (List ℕ) → ℕ → List Fact → List (List (List ℕ)) → Type 0
SayFacts s header count [] [] = ⊤
SayFacts s header count [] (r ∷ rows) = ⊥
SayFacts s header count (f ∷ fs) [] = ⊥
SayFacts s header count (f ∷ fs) (r ∷ rows) = SaysFact s header count f r × SayFacts s header (count + 1) fs rows

-- the first of the records that are left has a fault by itself
pub record FirstIsFaulty (s : Dims) (header : List (List ℕ)) (count : ℕ) (left : List (List (List ℕ))) (e : FactsFault) : Type 0 where
  pub row : List (List ℕ)
  pub behind : List (List (List ℕ))
  pub is : left ≡ row ∷ behind
  pub fault : first (own_faults s header count row) ≡ Some e

-- some facts were taken from the front of the records that were left
pub record Takes (s : Dims) (header : List (List ℕ)) (count : ℕ) (left : List (List (List ℕ))) (facts : List Fact) (rest : List (List (List ℕ))) : Type 0 where
  pub rows : List (List (List ℕ))
  pub whole : left ≡ rows ++ rest
  pub say : SayFacts s header count facts rows

-- ---- adding up

-- what is left to say of a file behind some records without a fault
abbrev pub rest_of : Dims → List (List ℕ) → List (List (List ℕ)) → List (List (List ℕ)) → Result (List Fact) FactsFault
rest_of s header earlier left = unless (in_turn (record_faults s header) earlier left) (map (fact_of s header) (earlier ++ left))

-- how all the records stand behind some of them: what is left to say, and the points so far
pub record Reads (s : Dims) (all : List (List (List ℕ))) (header : List (List ℕ)) (points : Points) (count : ℕ) (left : List (List (List ℕ))) : Type 0 where
  pub earlier : List (List (List ℕ))
  pub counted : count ≡ length earlier
  pub whole : facts_in s all ≡ rest_of s header earlier left
  pub facts : AreFacts s (map (fact_of s header) earlier)
  pub gathers : Gathers s (map (fact_of s header) earlier) points

-- the same, where some facts of the records behind have been taken
pub record Awaits (s : Dims) (all : List (List (List ℕ))) (header : List (List ℕ)) (points : Points) (count : ℕ) (facts : List Fact) (rest : List (List (List ℕ))) : Type 0 where
  pub rows : List (List (List ℕ))
  pub reads : Reads s all header points count (rows ++ rest)
  pub say : SayFacts s header count facts rows

-- the places of the points of a block may be looked for
pub record MayLook (points : Points) (block : List Held) : Type 0 where
  pub each : (i : ℕ) (d : Held) → i < length block → IsWithin points.sizes.items (slice_index_or block i d).leaves.items
  pub combinations : key_count points.sizes.items ≤ 2 ^ 128

-- places are noted for the points of a block, as far as they are known
abbrev pub AreNoted : Points → List ℕ → List Held → Type 0
AreNoted points noted block = (i : ℕ) (d : Held) → i < length block → IsNoted points (slice_index_or block i d).leaves.items (slice_index_or noted i 0)

-- facts have been taken that may be added up
pub record MayAdd (points : Points) (count : ℕ) (facts : List Fact) : Type 0 where
  pub s : Dims
  pub rules : IsDims s
  pub all : List (List (List ℕ))
  pub header : List (List ℕ)
  pub rest : List (List (List ℕ))
  pub awaits : Awaits s all header points count facts rest
