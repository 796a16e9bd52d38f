use Rattle.std.proofs.Common.{◌≡◌, [], map}
use Rattle.cube_model.specs.Cubes.{count_from}
use Rattle.cube_colour.specs.Forests.{alone}
use Rattle.cube_colour.proofs.forest.lone_nodes.Given as goal

abbrev pub invariant-places : goal.invariant-places
invariant-places l = l.nodes.items ≡ map (alone []) (count_from 0 l.place)
