-- What a table of judged cuboids keeps, and when it stands for a core and a policy.
use Rattle.std.specs.Prelude.{◌≡◌, ℕ, suc, ◌*◌, ◌/◌, ◌%◌, ◌<◌, true, List, [], ◌∷◌, length, Option, Some, None}
use Rattle.cube_model.specs.declared.policy.Policy.{Policy}
use Rattle.cube_model.specs.Cores.{Core, shown}
use Rattle.cube_model.specs.Cubes.{Public, Each, are_levels, cuboid_count, cuboid_number}
use Rattle.cube_model.specs.Dims.{Dims, plains}
use Rattle.cube_model.specs.Protection.{uncut}
use Rattle.cube_source.specs.declared.judging.Judged.{Judged}
use Rattle.cube_source.specs.Judged.{judged_of}

-- the verdict on the cuboid with a number, for the measure with a number
pub record Found : Type 0 where
  pub measure : ℕ
  pub cuboid : ℕ
  pub judged : Judged

-- A table of judged cuboids: how many measures and how many cuboids there are, and the verdicts that it keeps, by measure and
-- then by cuboid.
pub record Table : Type 0 where
  pub measures : ℕ
  pub cuboids : ℕ
  pub found : List Found

-- what a verdict in a slot says
abbrev pub found_at : ℕ → ℕ → Judged → Found
found_at cuboids slot judged = record { measure = slot / cuboids; cuboid = slot % cuboids; judged = judged }

-- the verdicts in slots, one for each cuboid of each measure, from a slot on
abbrev pub found_from : ℕ → ℕ → List (Option Judged) → List Found
found_from cuboids slot [] = []
found_from cuboids slot (None ∷ rest) = found_from cuboids (suc slot) rest
found_from cuboids slot (Some judged ∷ rest) = found_at cuboids slot judged ∷ found_from cuboids (suc slot) rest

-- the slot is that of the cuboid at some levels, for a measure
pub record IsSlot (d : Dims) (t : Table) (measure : ℕ) (levels : List ℕ) (slot : ℕ) : Type 0 where
  pub below : slot < t.measures * t.cuboids
  pub measure_is : slot / t.cuboids ≡ measure
  pub cuboid_is : slot % t.cuboids ≡ cuboid_number (plains d) levels

-- the verdict is that on each cuboid with the number
abbrev pub IsFound : Public → Found → Type 0
IsFound g f = (levels : List ℕ) → are_levels g.dimensions levels ≡ true → cuboid_number g.dimensions levels ≡ f.cuboid → f.judged ≡ judged_of (uncut g levels f.measure)

-- The table stands for the core and the policy: its numbers are those of the dimensions and measures, and each verdict that it
-- keeps is that of `judge`.
pub record TableStands (c : Core) (p : Policy) (t : Table) : Type 0 where
  pub measures : t.measures ≡ length c.dims.measures
  pub cuboids : t.cuboids ≡ cuboid_count (plains c.dims)
  pub found : Each (IsFound (shown c p)) t.found
