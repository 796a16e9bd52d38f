use Rattle.std.proofs.Common.{◌≡◌, ◌++◌, map, drop, flat_map}
use Rattle.cube_text.specs.Keys.{closed}
use Rattle.cube_witness.proofs.file.push_measure_columns.Given as goal

abbrev pub invariant-loop-measure : goal.invariant-loop-measure
invariant-loop-measure l = l.text ++ flat_map closed (map (λ m. m.column) (drop l.measure-index l.measures)) ≡ l.fn.text ++ flat_map closed (map (λ m. m.column) l.measures)
