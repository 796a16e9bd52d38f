-- When a core has as many points as there are vectors of leaves.
use Rattle.std.specs.Prelude.{ℕ, ◌*◌, ◌==◌, Bool, List, [], ◌∷◌, length}
use Rattle.cube_model.specs.Cores.{Core}
use Rattle.cube_model.specs.Dims.{NamedDimension}

-- how many vectors of leaves there are
abbrev pub vector_count : List NamedDimension → ℕ
vector_count [] = 1
vector_count (d ∷ ds) = length d.paths * vector_count ds

-- there are as many points as vectors of leaves
abbrev pub is_full : Core → Bool
is_full c = length c.shape.points == vector_count c.dims.dimensions
