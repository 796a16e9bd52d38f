use Rattle.std.proofs.Common.{length, take}
use Rattle.cube_source.specs.Blocks.{bare}
use Rattle.cube_source.specs.Bounds.{bound_over, AreBounds}
use Rattle.cube_source.proofs.slices.bounds_over.Given as goal

abbrev pub invariant-objects : goal.invariant-objects
invariant-objects l = AreBounds (length l.core.shape.points) (bound_over (bare l.core) (take l.number l.objects) l.measure l.levels) l.bounds.items
