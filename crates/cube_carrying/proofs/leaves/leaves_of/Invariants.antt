use Rattle.std.proofs.Common.{◌≡◌, map}
use Rattle.cube_model.specs.Cubes.{count_from}
use Rattle.cube_carry.specs.Names.{carried_member}
use Rattle.cube_carrying.proofs.leaves.leaves_of.Given as goal

abbrev pub invariant-leaves : goal.invariant-leaves
invariant-leaves l = l.numbers ≡ map (carried_member l.dimension l.other 0) (count_from 0 l.leaf)
