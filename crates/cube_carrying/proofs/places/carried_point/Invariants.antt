use Rattle.std.proofs.Common.{◌≡◌, map, take}
use Rattle.cube_carrying.specs.Places.{leaf_in}
use Rattle.cube_carrying.proofs.places.carried_point.Given as goal

abbrev pub invariant-each : goal.invariant-each
invariant-each l = l.key ≡ map (leaf_in l.old l.point) (take l.number l.new.dimensions)
