use Rattle.std.proofs.Common.{◌≡◌, ℕ, map}
use Rattle.cube_model.specs.Cores.{shown}
use Rattle.cube_model.specs.Cubes.{count_from}
use Rattle.cube_model.specs.Protection.{method}
use Rattle.cube_admit.specs.States.{started}
use Rattle.cube_admit.proofs.state.start_all.Given as goal

abbrev pub invariant-measures : goal.invariant-measures
invariant-measures l = l.held.items ≡ map (λ (m : ℕ). started (shown l.core l.policy) (method (shown l.core l.policy) m) m) (count_from 0 l.measure)
