use Rattle.std.proofs.Common.{◌≡◌, map, take}
use Rattle.serde_json.specs.View.{view}
use Rattle.cube_shape.specs.ShapeText.{dimension_data}
use Rattle.cube_shape.proofs.parts.dimensions_value.Given as goal

abbrev pub invariant-loop-dimension : goal.invariant-loop-dimension
invariant-loop-dimension l = map view l.values.items ≡ map dimension_data (take l.dimension-index l.dimensions)
