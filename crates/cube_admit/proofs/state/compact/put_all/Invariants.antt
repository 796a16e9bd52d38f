use Rattle.std.proofs.Common.{◌≡◌, ◌++◌, drop, length}
use Rattle.cube_admit.specs.Compacting.{held_from}
use Rattle.cube_admit.proofs.state.compact.put_all.Given as goal

abbrev pub invariant-measures : goal.invariant-measures
invariant-measures l = (held_from 0 l.held ≡ l.history ++ held_from l.measure (drop l.measure l.held)) × (l.measure-end ≡ length l.held)
