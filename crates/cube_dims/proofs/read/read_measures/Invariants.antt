use Rattle.std.proofs.Common.{◌≡◌, [], map, take}
use Rattle.toml.specs.View.{view}
use Rattle.cube_model.specs.Checks.{in_turn}
use Rattle.cube_tables.specs.Tables.{table_in}
use Rattle.cube_dims.specs.DimsFile.{measure_of, measure_faults}
use Rattle.cube_dims.proofs.read.read_measures.Given as goal

abbrev pub invariant-loop-item : goal.invariant-loop-item
invariant-loop-item l = record {
  none : in_turn (λ before table. measure_faults l.dimensions (map measure_of before) table) [] (take l.item-index (map table_in (map view l.items))) ≡ [];
  read : l.measures ≡ map measure_of (take l.item-index (map table_in (map view l.items)));
}
