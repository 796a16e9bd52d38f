use Rattle.std.proofs.Common.{◌≡◌, ◌+◌, [], map, take, length, codes}
use Rattle.toml.specs.View.{view}
use Rattle.cube_model.specs.Checks.{in_turn}
use Rattle.cube_tables.specs.Tables.{table_in, entry_of}
use Rattle.cube_policy.specs.PolicyFile.{object_of, object_faults}
use Rattle.cube_policy.proofs.read.read_objects.Given as goal

abbrev pub invariant-loop-index : goal.invariant-loop-index
invariant-loop-index l = record {
  none : in_turn (λ before table. object_faults l.dims l.methods (entry_of (codes "object") (length before + 1)) table) [] (take l.index (map table_in (map view l.items))) ≡ [];
  read : l.objects ≡ map (object_of l.dims) (take l.index (map table_in (map view l.items)));
}
