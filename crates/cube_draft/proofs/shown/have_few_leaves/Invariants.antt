use Rattle.std.proofs.Common.{◌≡◌, take}
use Rattle.cube_draft.specs.Kept.{leaf_points}
use Rattle.cube_draft.proofs.shown.have_few_leaves.Given as goal

abbrev pub invariant-loop-dimension : goal.invariant-loop-dimension
invariant-loop-dimension l = l.many ≡ leaf_points (take l.dimension-index l.dimensions)
