-- How facts are added up: at each point the number of its facts, and the plain sum of each measure.
use Rattle.std.specs.Prelude.{◌≡◌, ℕ, ◌+◌, ◌*◌, ◌<◌, ◌≤◌, ◌^◌, nat_lt, nat_eq, if◌then◌else◌, List, [], ◌∷◌, ◌++◌, length, take, drop, map, flat_map, slice_index_or, slice_set, position, Some, ℤ, ◌+ℤ◌, All, ⊤}
use Rattle.std.specs.List.{position_or_len}
use Rattle.cube_model.specs.Cores.{IsSumOf}
use Rattle.cube_model.specs.Cubes.{Each, IsIn, IsPoint, count_from, in_order}
use Rattle.cube_model.specs.Dims.{Dims, plains}
use Rattle.cube_core.specs.Keys.{rank, key_count}
use Rattle.cube_core.proofs.Ranking.{IsWithin}
use Rattle.cube_facts.specs.FactFile.{Fact, facts_at, units_sum, points_of}
use Rattle.cube_facts.specs.Table.{IsUnits}
use Rattle.cube_facts.specs.declared.totals.Points.{Points}

-- where a rank first stands
abbrev pub place_in : List ℕ → ℕ → ℕ
place_in ranks r = position_or_len (nat_eq r) ranks

-- ---- one fact more at a place, which is one of those that there are, or the next

abbrev pub with_fact : ℕ → List ℕ → List ℕ
with_fact place facts = if nat_lt place (length facts) then slice_set facts place (slice_index_or facts place 0 + 1) else facts ++ 1 ∷ []

-- the sums, each with its number
abbrev pub sums_with : List ℤ → List ℤ → List ℤ
sums_with [] units = []
sums_with (x ∷ xs) [] = x ∷ xs
sums_with (x ∷ xs) (u ∷ us) = (x +ℤ u) ∷ sums_with xs us

-- the same, of those from one on
abbrev pub with_row : ℕ → List ℤ → List ℤ → List ℤ
with_row start sums units = take start sums ++ sums_with (take (length units) (drop start sums)) units ++ drop (start + length units) sums

abbrev pub with_point : ℕ → List (List ℕ) → List ℕ → List (List ℕ)
with_point place points x = if nat_lt place (length points) then points else points ++ x ∷ []

-- ---- what is kept

-- no element stands twice
abbrev pub Apart : List (List ℕ) → Type 0
Apart [] = ⊤
Apart (x ∷ xs) = (IsIn x xs → ⊥) × Apart xs

-- The points of some facts are kept, each once and under its rank, with the totals of its facts.
pub record Gathers (s : Dims) (facts : List Fact) (p : Points) : Type 0 where
  pub sizes : p.sizes.items ≡ map (λ d. length d.paths) s.dimensions
  pub places : p.places ≡ map (rank 0 p.sizes.items) p.leaves
  pub within : Each (IsWithin p.sizes.items) p.leaves
  pub apart : Apart p.leaves
  pub points : in_order p.leaves ≡ points_of facts
  pub many : length (points_of facts) ≡ length p.leaves
  pub facts_are : p.facts.items ≡ map (λ x. length (facts_at facts x)) p.leaves
  pub measures : p.measures ≡ length s.measures
  pub sums : p.sums.items ≡ flat_map (λ x. map (λ m. units_sum m (facts_at facts x)) (count_from 0 (length s.measures))) p.leaves

-- the place of a point is noted, and 1 more; 0 says nothing
abbrev pub IsNoted : Points → List ℕ → ℕ → Type 0
IsNoted p leaves noted = (place : ℕ) → noted ≡ place + 1 → position (nat_eq (rank 0 p.sizes.items leaves)) p.places ≡ Some place

-- one fact more may be added behind so many
pub record Fits (p : Points) (earlier : ℕ) (leaves : List ℕ) (units : List ℤ) : Type 0 where
  pub few : earlier < 1000000
  pub point : IsWithin p.sizes.items leaves
  pub combinations : key_count p.sizes.items ≤ 2 ^ 128
  pub facts : (place : ℕ) → slice_index_or p.facts.items place 0 < 1000000
  pub sums : All (IsSumOf earlier) p.sums.items
  pub rows : (place : ℕ) → place < length p.facts.items → place * length units + length units ≤ length p.sums.items
  pub bounded : All IsUnits units

-- These places have the points of some facts in order.
pub record Orders (facts : List Fact) (p : Points) (order : List ℕ) : Type 0 where
  pub points : map (λ place. slice_index_or p.leaves place []) order ≡ points_of facts
  pub below : All (λ place. place < length p.leaves) order

-- a fact of a file: a leaf of each dimension, and units within bounds for each measure
pub record IsFact (s : Dims) (f : Fact) : Type 0 where
  pub leaves : IsPoint (plains s) f.leaves
  pub long : length f.units ≡ length s.measures
  pub bounded : All IsUnits f.units

-- facts of a file, not too many of them
pub record AreFacts (s : Dims) (facts : List Fact) : Type 0 where
  pub each : Each (IsFact s) facts
  pub few : length facts ≤ 1000000
  pub few_points : length (points_of facts) ≤ 65536
