-- The places that the points of an old core have in a new one, as a table.
use Rattle.std.specs.Prelude.{ℕ, List, [], length, map, slice_index_or}
use Rattle.cube_model.specs.Cores.{Core}
use Rattle.cube_model.specs.Cubes.{count_from, place_of}
use Rattle.cube_model.specs.Dims.{Dims, NamedDimension}
use Rattle.cube_carry.specs.Names.{same_dimension, dimension_in, carried_member, carried_point}

-- for each dimension of the new core the number of the old one's dimension of that name
abbrev pub numbers_in : Dims → Dims → List ℕ
numbers_in s z = map (dimension_in s) z.dimensions

-- the leaf that a point has in a dimension of the new core
abbrev pub leaf_in : Dims → List ℕ → NamedDimension → ℕ
leaf_in s x e = carried_member (same_dimension s e) e 0 (slice_index_or x (dimension_in s e) 0)

-- the place of the point with the leaves of an old place, or how many new points there are where none has them
abbrev pub place_in : Core → Core → ℕ → ℕ
place_in c d i = place_of (carried_point c.dims d.dims (slice_index_or c.shape.points i [])) d.shape.points

-- so for each old place
abbrev pub carried_places : Core → Core → List ℕ
carried_places c d = map (place_in c d) (count_from 0 (length c.shape.points))
