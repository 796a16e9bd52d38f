use Rattle.std.proofs.Common.{◌≡◌, ◌+◌}
use Rattle.cube_rollup.proofs.cuboid.Cuboid.all_cells.Given as goal

abbrev pub invariant-cells : goal.invariant-cells
invariant-cells g l = l.steps ≡ l.initial.steps + l._cell-index
