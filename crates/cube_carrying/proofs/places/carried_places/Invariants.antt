use Rattle.std.proofs.Common.{◌≡◌, map}
use Rattle.cube_model.specs.Cubes.{count_from}
use Rattle.cube_carrying.specs.Places.{place_in}
use Rattle.cube_carrying.proofs.places.carried_places.Given as goal

abbrev pub invariant-places : goal.invariant-places
invariant-places l = l.places ≡ map (place_in l.old l.new) (count_from 0 l.place)
