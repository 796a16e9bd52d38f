use Rattle.std.proofs.Common.{◌≡◌, filter, length}
use Rattle.cube_model.specs.Cubes.{count_from}
use Rattle.cube_core.proofs.Stretches.{picked_before}
use Rattle.cube_core.proofs.core_cube.Core.picked_places.Given as goal

abbrev pub invariant-dimensions : goal.invariant-dimensions
invariant-dimensions l = l.places ≡ filter (picked_before l.self l.request l.number) (count_from 0 (length l.self.shape.points))
