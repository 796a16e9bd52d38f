use Rattle.std.specs.List.{sum_by}
use Rattle.std.proofs.Common.{◌≡◌, take, get_or}
use Rattle.cube_core.proofs.core_cube.Core.count_row.Given as goal

abbrev pub invariant-places : goal.invariant-places
invariant-places l = l.count ≡ sum_by (λ i. get_or l.self.shape.facts i 0) (take l.place-index l.row.places)
