use Rattle.std.proofs.Common.{◌≡◌, map, take}
use Rattle.cube_carrying.proofs.unkept.finest.Given as goal

abbrev pub invariant-dimensions : goal.invariant-dimensions
invariant-dimensions l = l.levels ≡ map (λ d. 0) (take l._dimension-index l._dimension-items)
