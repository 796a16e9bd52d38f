use Rattle.std.proofs.Common.{◌≡◌, [], map, take, get_or}
use Rattle.cube_model.specs.Cubes.{ancestors}
use Rattle.cube_model.specs.Dims.{plains}
use Rattle.cube_answers.proofs.cells.cell_at.Given as goal

abbrev pub invariant-loop-d : goal.invariant-loop-d
invariant-loop-d l = record {
  levels : l.levels ≡ take l.d (map (λ d. 0) (plains l.core.dims));
  key : l.key ≡ take l.d (ancestors (plains l.core.dims) (map (λ d. 0) (plains l.core.dims)) (get_or l.core.shape.points l.place []));
}
