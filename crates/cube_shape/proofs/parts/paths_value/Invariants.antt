use Rattle.std.proofs.Common.{◌≡◌, map, take}
use Rattle.serde_json.specs.View.{view}
use Rattle.cube_shape.specs.ShapeText.{texts_data}
use Rattle.cube_shape.proofs.parts.paths_value.Given as goal

abbrev pub invariant-loop-path : goal.invariant-loop-path
invariant-loop-path l = map view l.values.items ≡ map texts_data (take l.path-index l.paths)
