-- The leaves of a place, by name.
use Rattle.std.specs.Prelude.{ℕ, List, [], map, slice_index_or}
use Rattle.cube_model.specs.declared.shape.Shape.{Shape}
use Rattle.cube_model.specs.Dims.{Dims}
use Rattle.cube_text.specs.Keys.{key_names}

-- the finest level of each dimension
abbrev pub finest : Dims → List ℕ
finest s = map (λ d. 0) s.dimensions

-- the leaves of a place, one for each dimension
abbrev pub leaves : Shape → ℕ → List ℕ
leaves g i = slice_index_or g.points i []

abbrev pub leaf_names : Dims → Shape → ℕ → List (List ℕ)
leaf_names s g i = key_names s.dimensions (finest s) (leaves g i)
