use Rattle.std.proofs.Common.{◌≡◌, map, take}
use Rattle.cube_model.specs.Dims.{plain}
use Rattle.cube_lattice.proofs.below.coarsest.Given as goal

abbrev pub invariant-dimensions : goal.invariant-dimensions
invariant-dimensions l = l.levels ≡ map (λ d. d.levels) (map plain (take l.dimension-index l.dimension-items))
