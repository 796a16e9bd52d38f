use Rattle.std.proofs.Common.{◌≡◌, filter}
use Rattle.cube_model.specs.Cubes.{count_from}
use Rattle.cube_model.specs.Protection.{is_guarded}
use Rattle.cube_source.specs.Blocks.{bare}
use Rattle.cube_source.specs.Objects.{of_measure}
use Rattle.cube_source.proofs.listing.guarded.Given as goal

abbrev pub invariant-places : goal.invariant-places
invariant-places l = l.found ≡ filter (is_guarded (bare l.core) (of_measure l.measure l.objects)) (count_from 0 l.place)
