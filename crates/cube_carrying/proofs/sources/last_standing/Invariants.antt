use Rattle.std.proofs.Common.{◌≡◌, take}
use Rattle.cube_model.specs.Cores.{shown}
use Rattle.cube_carrying.specs.Standing.{last_standing}
use Rattle.cube_carrying.proofs.sources.last_standing.Given as goal

abbrev pub invariant-cuboids : goal.invariant-cuboids
invariant-cuboids l = last_standing (shown l.core l.policy) l.flags l.measure (take l.number l.cuboids) ≡ last_standing (shown l.core l.policy) l.flags l.measure l.cuboids
