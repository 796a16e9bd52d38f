use Rattle.std.proofs.Common.{◌≡◌, map}
use Rattle.cube_model.specs.Cubes.{count_from}
use Rattle.cube_model.specs.Protection.{in_slice}
use Rattle.cube_source.specs.Blocks.{bare}
use Rattle.cube_source.proofs.slices.slice_flags.Given as goal

abbrev pub invariant-places : goal.invariant-places
invariant-places l = l.flags ≡ map (in_slice (bare l.core) l.object) (count_from 0 l.place)
