use Rattle.std.specs.List.{sum_by}
use Rattle.std.proofs.Common.{◌≡◌, ◌+◌, [], take, get_or}
use Rattle.cube_model.specs.Cores.{IsSumOf}
use Rattle.cube_model.specs.Requests.{total}
use Rattle.cube_core.proofs.core_cube.Core.sum_row.Given as goal

abbrev pub invariant-places : goal.invariant-places
invariant-places g l = record {
  summed : l.sum ≡ total (get_or l.self.cube l.measure []) (take l.place-index l.row.places);
  bounded : IsSumOf (sum_by (λ i. get_or l.self.shape.facts i 0) (take l.place-index l.row.places)) l.sum;
  counted : l.steps ≡ l.initial.steps + l.place-index;
}
