use Rattle.std.specs.List.{sum_by}
use Rattle.std.proofs.Common.{◌≡◌, ◌≤◌, ◌*◌}
use Rattle.cube_model.specs.Cubes.{count_from}
use Rattle.cube_source.specs.Counts.{other_count}
use Rattle.cube_source.proofs.counting.count_others.Given as goal

abbrev pub invariant-measures : goal.invariant-measures
invariant-measures l = record {
  counted : l.total ≡ sum_by (other_count l.core l.policy) (count_from 0 l.measure);
  small : l.total ≤ l.measure * 65536;
}
