use Rattle.std.proofs.Common.{◌≡◌, take}
use Rattle.cube_rollup.specs.Cuboids.{sums_of}
use Rattle.cube_rollup.proofs.building.sums_in.Given as goal

abbrev pub invariant-cells : goal.invariant-cells
invariant-cells l = l.sums ≡ sums_of (take l.cell-index l.cells)
