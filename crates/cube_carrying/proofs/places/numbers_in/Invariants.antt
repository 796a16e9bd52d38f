use Rattle.std.proofs.Common.{◌≡◌, map, take}
use Rattle.cube_carry.specs.Names.{dimension_in}
use Rattle.cube_carrying.proofs.places.numbers_in.Given as goal

abbrev pub invariant-each : goal.invariant-each
invariant-each l = l.numbers ≡ map (dimension_in l.old) (take l.number l.new.dimensions)
