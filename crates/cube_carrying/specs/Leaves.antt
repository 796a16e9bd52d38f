-- The numbers that the leaves of an old cube have in a new one, as a table.
use Rattle.std.specs.Prelude.{ℕ, List, length, map}
use Rattle.cube_model.specs.Cubes.{count_from}
use Rattle.cube_model.specs.Dims.{Dims, NamedDimension}
use Rattle.cube_carry.specs.Names.{same_dimension, carried_member}

-- of all leaves of a dimension
abbrev pub leaves_in : NamedDimension → NamedDimension → List ℕ
leaves_in d e = map (carried_member d e 0) (count_from 0 (length d.paths))

-- for each dimension of the new cube
abbrev pub carried_leaves : Dims → Dims → List (List ℕ)
carried_leaves s z = map (λ e. leaves_in (same_dimension s e) e) z.dimensions
