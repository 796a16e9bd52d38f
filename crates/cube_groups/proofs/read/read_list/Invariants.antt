use Rattle.std.proofs.Common.{◌≡◌, [], map, take}
use Rattle.toml.specs.View.{view}
use Rattle.cube_model.specs.Checks.{in_turn}
use Rattle.cube_tables.specs.Tables.{table_in}
use Rattle.cube_groups.specs.GroupsFile.{group_of, group_faults}
use Rattle.cube_groups.proofs.read.read_list.Given as goal

abbrev pub invariant-loop-item : goal.invariant-loop-item
invariant-loop-item l = record {
  none : in_turn (λ before table. group_faults (map group_of before) table) [] (take l.item-index (map table_in (map view l.items))) ≡ [];
  read : l.groups ≡ map group_of (take l.item-index (map table_in (map view l.items)));
}
