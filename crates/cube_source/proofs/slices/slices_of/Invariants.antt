use Rattle.std.proofs.Common.{◌≡◌, map, take}
use Rattle.cube_source.specs.Blocks.{bare}
use Rattle.cube_source.specs.Objects.{slice_of}
use Rattle.cube_source.proofs.slices.slices_of.Given as goal

abbrev pub invariant-objects : goal.invariant-objects
invariant-objects l = l.slices ≡ map (slice_of (bare l.core)) (take l.number l.objects)
