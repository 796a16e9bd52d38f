use Rattle.std.proofs.Common.{◌≡◌, ◌≤◌, length, filter, take}
use Rattle.cube_source.specs.Blocks.{bare}
use Rattle.cube_source.specs.Bounds.{is_below_bound}
use Rattle.cube_source.proofs.slices.count_below.Given as goal

abbrev pub invariant-rows : goal.invariant-rows
invariant-rows l = record {
  counted : l.total ≡ length (filter (is_below_bound (bare l.core) l.bounds) (take l.row-index l.rows));
  small : l.total ≤ l.row-index;
}
