-- What the point of an old place is looked at for, at its place in a new core.
use Rattle.std.specs.List.{list_all}
use Rattle.std.specs.Ordering.{int_eq}
use Rattle.std.specs.Prelude.{ℕ, ◌<◌, Bool, ◌&&◌, ◌==◌, nat_lt, List, length, map, slice_index_or}
use Rattle.cube_model.specs.Cores.{Core}
use Rattle.cube_model.specs.Cubes.{count_from}
use Rattle.cube_model.specs.Dims.{Dims}
use Rattle.cube_carry.specs.Continues.{value_at}
use Rattle.cube_carry.specs.Names.{measure_in}

-- for each measure of the old core the number of the new one's measure of that name
abbrev pub measures_in : Dims → Dims → List ℕ
measures_in s z = map (measure_in s z) (count_from 0 (length s.measures))

-- each measure has one of its name
abbrev pub HasMeasures : Dims → Dims → Type 0
HasMeasures s z = (m : ℕ) → m < length s.measures → measure_in s z m < length z.measures

-- there is a point at the new place, with as many facts as at the old one
abbrev pub has_facts : Core → Core → ℕ → ℕ → Bool
has_facts c d i j = nat_lt j (length d.shape.points) && slice_index_or c.shape.facts i 0 == slice_index_or d.shape.facts j 0

-- a measure has the same value there
abbrev pub has_value : Core → Core → ℕ → ℕ → ℕ → Bool
has_value c d i j m = int_eq (value_at d.cube (measure_in c.dims d.dims m) j) (value_at c.cube m i)

-- so each measure
abbrev pub has_values : Core → Core → ℕ → ℕ → Bool
has_values c d i j = list_all (has_value c d i j) (count_from 0 (length c.dims.measures))
