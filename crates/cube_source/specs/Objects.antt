-- The objects of a measure, what a walk over objects needs of them, and what they protect at a cuboid.
use Rattle.std.specs.List.{list_any}
use Rattle.std.specs.Prelude.{◌≡◌, ℕ, Bool, true, ◌&&◌, ◌==◌, List, filter, map}
use Rattle.cube_model.specs.declared.cell.Cell.{Cell}
use Rattle.cube_model.specs.declared.policy.Object.{Object}
use Rattle.cube_model.specs.Cubes.{Public, Each, are_levels, covers, places, is_finer, in_order, key_at}
use Rattle.cube_model.specs.Dims.{Dims, plains}
use Rattle.cube_model.specs.Policies.{IsWithin}
use Rattle.cube_model.specs.Protection.{in_slice, guards}

abbrev pub of_measure : ℕ → List Object → List Object
of_measure m os = filter (λ o. o.measure == m) os

-- an object stands at levels, and its slice lists members
pub record IsPlaced (s : Dims) (o : Object) : Type 0 where
  pub levels : are_levels (plains s) o.levels ≡ true
  pub slice : Each (IsWithin s) o.slice

-- the cell covers a place of the object's slice
abbrev pub covers_slice : Public → Cell → Object → Bool
covers_slice g t o = list_any (λ i. covers g t i && in_slice g o i) (places g)

-- the object is of the measure, and guards the place at the cuboid
abbrev pub is_sliced : Public → ℕ → List ℕ → Object → ℕ → Bool
is_sliced g m c o i = o.measure == m && guards g o c i

-- for each place, whether it is in the object's slice
abbrev pub slice_of : Public → Object → List Bool
slice_of g o = map (in_slice g o) (places g)

-- an object of the measure that stands at or above the cuboid guards the place
abbrev pub stands_over : Public → List Object → ℕ → List ℕ → ℕ → Bool
stands_over g os m c i = list_any (λ o. is_finer c o.levels && is_sliced g m c o i) os

-- the cells of the cuboid that cover such a place, by key
abbrev pub cells_over : Public → List Object → ℕ → List ℕ → List Cell
cells_over g os m c = map (λ key. record { levels = c; key = key }) (in_order (map (key_at g c) (filter (stands_over g os m c) (places g))))
