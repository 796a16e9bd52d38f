-- A core with one place and two measures, and three that differ from it in what a seal tells.
use Rattle.std.specs.Prelude.{ℕ, ℤ, List, [], ◌∷◌, codes, pos, negsuc}
use Rattle.cube_model.specs.Cores.{Core}
use Rattle.cube_model.specs.Dims.{NamedMeasure}

abbrev pub measure : List ℕ → ℕ → NamedMeasure
measure name decimals = record { name = name; column = name; decimals = decimals }

-- no dimension, one place with one fact, and these measures with these values there
abbrev pub one_place : NamedMeasure → ℤ → NamedMeasure → ℤ → Core
one_place m x n y = record {
  dims = record { dimensions = []; measures = m ∷ n ∷ [] };
  shape = record { points = [] ∷ []; facts = 1 ∷ [] };
  cube = (x ∷ []) ∷ (y ∷ []) ∷ [];
}

abbrev pub pay : ℕ → NamedMeasure
pay decimals = measure (codes "pay") decimals

abbrev pub hours : NamedMeasure
hours = measure (codes "hours") 0

-- pay 300.00, and a correction of one hour
abbrev pub sealed_core : Core
sealed_core = one_place (pay 2) (pos 30000) hours (negsuc 0)

-- another value
abbrev pub corrected_core : Core
corrected_core = one_place (pay 2) (pos 30001) hours (negsuc 0)

-- the same numbers with other decimals
abbrev pub coarser_core : Core
coarser_core = one_place (pay 1) (pos 30000) hours (negsuc 0)

-- the values of the two measures are swapped
abbrev pub swapped_core : Core
swapped_core = one_place (pay 2) (negsuc 0) hours (pos 30000)
