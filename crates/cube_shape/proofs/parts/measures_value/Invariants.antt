use Rattle.std.proofs.Common.{◌≡◌, map, take}
use Rattle.std.specs.Prelude.{zip}
use Rattle.serde_json.specs.View.{view}
use Rattle.cube_shape.specs.ShapeText.{measure_data}
use Rattle.cube_shape.proofs.parts.measures_value.Given as goal

abbrev pub invariant-measures : goal.invariant-measures
invariant-measures l = map view l.values.items ≡ map measure_data (take l.number (zip l.measures l.methods))
