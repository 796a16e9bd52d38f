use Rattle.std.specs.List.{sum_by}
use Rattle.std.proofs.Common.{◌≡◌, ◌+◌, take, get_or}
use Rattle.cube_model.specs.Cores.{IsSumOf}
use Rattle.cube_model.specs.Requests.{total}
use Rattle.cube_rollup.specs.Cuboids.{sums_of}
use Rattle.cube_core.specs.Tallies.{AreBounded}
use Rattle.cube_rollup.proofs.cuboid.Cuboid.sum_row.Given as goal

abbrev pub invariant-cells : goal.invariant-cells
invariant-cells g l = record {
  summed : l.sum ≡ total (sums_of l.self.cells) (take l.place-index l.row.places);
  bounded : (b : AreBounded (sums_of l.self.cells)) → IsSumOf (sum_by (λ i. get_or b.facts i 0) (take l.place-index l.row.places)) l.sum;
  counted : l.steps ≡ l.initial.steps + l.place-index;
}
