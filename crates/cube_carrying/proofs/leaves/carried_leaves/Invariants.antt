use Rattle.std.proofs.Common.{◌≡◌, map, take}
use Rattle.cube_carry.specs.Names.{same_dimension}
use Rattle.cube_carrying.specs.Leaves.{leaves_in}
use Rattle.cube_carrying.proofs.leaves.carried_leaves.Given as goal

abbrev pub invariant-each : goal.invariant-each
invariant-each l = l.table ≡ map (λ e. leaves_in (same_dimension l.old e) e) (take l.number l.new.dimensions)
