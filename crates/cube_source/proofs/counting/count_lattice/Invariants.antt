use Rattle.std.specs.List.{sum_by}
use Rattle.std.proofs.Common.{◌≡◌, ◌≤◌, ◌*◌, take}
use Rattle.cube_source.specs.Blocks.{bare}
use Rattle.cube_source.specs.Counts.{count_over}
use Rattle.cube_source.proofs.counting.count_lattice.Given as goal

abbrev pub invariant-levels : goal.invariant-levels
invariant-levels l = record {
  counted : l.total ≡ sum_by (count_over (bare l.core) l.objects l.measures) (take l.levels-index l.levels-items);
  small : l.total ≤ l.levels-index * 1048576;
}
