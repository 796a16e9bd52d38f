-- Which rows of places have few enough facts for an object.
use Rattle.std.specs.List.{list_any}
use Rattle.std.specs.Prelude.{ℕ, Bool, true, ◌&&◌, nat_lt, List, map, sum, slice_index_or, Option, Some, None}
use Rattle.cube_model.specs.declared.policy.Object.{Object}
use Rattle.cube_model.specs.Cubes.{Public}
use Rattle.cube_model.specs.Protection.{in_slice}

-- how many facts stand at the places
abbrev pub facts_at : Public → List ℕ → ℕ
facts_at g is = sum (map (λ i. slice_index_or g.shape.facts i 0) is)

-- they have fewer facts than this, if a number is given
abbrev pub are_few : Public → Option ℕ → List ℕ → Bool
are_few g None is = true
are_few g (Some n) is = nat_lt (facts_at g is) n

-- one of the places is in the object's slice, and all have few enough facts
abbrev pub guards_row : Public → Object → List ℕ → Bool
guards_row g o is = list_any (in_slice g o) is && are_few g o.fewer is
