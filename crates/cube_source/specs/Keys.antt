-- The key of a place from a dimension on.
use Rattle.std.specs.Prelude.{ℕ, List, [], map, drop, slice_index_or}
use Rattle.cube_model.specs.Cores.{Core}
use Rattle.cube_model.specs.Cubes.{ancestors}
use Rattle.cube_model.specs.Dims.{plain}

unfoldable pub key_from : Core → List ℕ → ℕ → ℕ → List ℕ
key_from c ls i k = ancestors (map plain (drop k c.dims.dimensions)) (drop k ls) (drop k (slice_index_or c.shape.points i []))
