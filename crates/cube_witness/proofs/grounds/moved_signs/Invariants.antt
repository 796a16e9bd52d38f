use Rattle.std.proofs.Common.{◌≡◌, map}
use Rattle.cube_model.specs.Cubes.{count_from}
use Rattle.cube_model.specs.Twins.{moved, with_first}
use Rattle.cube_witness.proofs.grounds.moved_signs.Given as goal

abbrev pub invariant-places : goal.invariant-places
invariant-places l = l.signs ≡ map (with_first moved l.pair) (count_from 0 l.place)
