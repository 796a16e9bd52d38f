use Rattle.std.proofs.Common.{◌≡◌, map}
use Rattle.cube_model.specs.Cubes.{count_from}
use Rattle.cube_carry.specs.Names.{measure_in}
use Rattle.cube_carrying.proofs.points.measures_in.Given as goal

abbrev pub invariant-each : goal.invariant-each
invariant-each l = l.numbers ≡ map (measure_in l.old l.new) (count_from 0 l.measure)
