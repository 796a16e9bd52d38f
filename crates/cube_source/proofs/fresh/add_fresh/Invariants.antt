use Rattle.std.proofs.Common.{◌≡◌, ◌≤◌, ◌++◌, length, map, filter, take}
use Rattle.cube_source.specs.Blocks.{bare, row_cell}
use Rattle.cube_source.proofs.Repeats.{is_new}
use Rattle.cube_source.proofs.fresh.add_fresh.Given as goal

abbrev pub invariant-rows : goal.invariant-rows
invariant-rows l = record {
  room : length l.cells ≤ l.most;
  added : l.cells ≡ l.initial.cells ++ map (row_cell l.levels) (filter (is_new (bare l.core) l.earlier l.object l.levels) (take l.row-index l.row-items));
}
