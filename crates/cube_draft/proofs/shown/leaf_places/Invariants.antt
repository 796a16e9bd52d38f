use Rattle.std.proofs.Common.{◌≡◌, take, map, unwrap_or}
use Rattle.cube_model.specs.Dims.{found}
use Rattle.cube_draft.proofs.shown.leaf_places.Given as goal

abbrev pub invariant-loop-dimension : goal.invariant-loop-dimension
invariant-loop-dimension l = l.places ≡ map (λ d. unwrap_or (found d.column l.header) 0) (take l.dimension-index l.dims.dimensions)
