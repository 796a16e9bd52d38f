use Rattle.std.proofs.Common.{◌≡◌, map}
use Rattle.cube_model.specs.Cubes.{count_from}
use Rattle.cube_model.specs.Twins.{plus_at}
use Rattle.cube_witness.proofs.grounds.plus_signs.Given as goal

abbrev pub invariant-places : goal.invariant-places
invariant-places l = l.signs ≡ map (plus_at l.at) (count_from 0 l.place)
