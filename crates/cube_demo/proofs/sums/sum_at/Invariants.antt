use Rattle.std.proofs.Common.{◌≡◌, take}
use Rattle.cube_model.specs.Cores.{IsSumOf}
use Rattle.cube_model.specs.Requests.{total}
use Rattle.cube_demo.proofs.sums.sum_at.Given as goal

abbrev pub invariant-places : goal.invariant-places
invariant-places l = record {
  summed : l.sum ≡ total l.signs (take l.place-index l.places);
  bounded : IsSumOf l.place-index l.sum;
}
