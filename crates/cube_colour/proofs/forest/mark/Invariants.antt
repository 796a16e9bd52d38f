use Rattle.std.proofs.Common.{◌≡◌, length, map, take}
use Rattle.cube_model.specs.Cubes.{count_from}
use Rattle.cube_colour.specs.Forests.{alone}
use Rattle.cube_colour.proofs.forest.mark.Given as goal

abbrev pub invariant-guards : goal.invariant-guards
invariant-guards l = l.nodes ≡ map (alone (take l.place-index l.guarded)) (count_from 0 (length l.initial.nodes))
