use Rattle.std.proofs.Common.{ℕ}
use Rattle.cube_model.specs.Cores.{shown}
use Rattle.cube_model.specs.Protection.{method}
use Rattle.cube_admit.specs.States.{started}
use Rattle.cube_admit.proofs.Standing.{started_more}
use Rattle.cube_admit.proofs.state.start_all.Goals as goal

pub measures-preserved : goal.measures-preserved
measures-preserved c = started_more (λ (m : ℕ). started (shown c.args.core.now c.args.policy.now) (method (shown c.args.core.now c.args.policy.now) m) m) c.measures.measure _ _ _ c.measures.invariant c.in_ok-start.ensures c.in_ok-push.ensures.items
