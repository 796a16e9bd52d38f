use Rattle.std.proofs.Common.{◌≡◌, [], map, take}
use Rattle.toml.specs.View.{view}
use Rattle.cube_model.specs.Checks.{in_turn}
use Rattle.cube_tables.specs.Tables.{table_in}
use Rattle.cube_dims.specs.DimsFile.{dimension_of, dimension_faults}
use Rattle.cube_dims.proofs.read.read_dimensions.Given as goal

abbrev pub invariant-loop-item : goal.invariant-loop-item
invariant-loop-item l = record {
  none : in_turn (λ before table. dimension_faults (map dimension_of before) table) [] (take l.item-index (map table_in (map view l.items))) ≡ [];
  read : l.dimensions ≡ map dimension_of (take l.item-index (map table_in (map view l.items)));
}
