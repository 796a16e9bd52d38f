-- Which places new objects protect whatever the number of facts is.
use Rattle.std.specs.List.{list_any}
use Rattle.std.specs.Prelude.{ℕ, Bool, ◌&&◌, ◌==◌, List, is_none}
use Rattle.cube_model.specs.declared.policy.Object.{Object}
use Rattle.cube_model.specs.Cubes.{Public, is_finer}
use Rattle.cube_model.specs.Protection.{in_slice}

-- the object is of the measure and names no number of facts, and the place is in its slice
abbrev pub is_shielded : Public → ℕ → Object → ℕ → Bool
is_shielded g m o i = (o.measure == m && is_none o.fewer) && in_slice g o i

-- such an object stands at or above the cuboid
abbrev pub is_shielded_over : Public → List Object → ℕ → List ℕ → ℕ → Bool
is_shielded_over g os m c i = list_any (λ o. is_finer c o.levels && is_shielded g m o i) os
