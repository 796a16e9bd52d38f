use Rattle.std.proofs.Common.{◌<◌, ℕ, List, length, sym, subst}
use Rattle.std.specs.List.{All}
use Rattle.cube_model.specs.Cores.{shown}
use Rattle.cube_admit.proofs.Standing.{guarded_below}
use Rattle.cube_admit.proofs.state.start.Goals as goal

pub new-requires : goal.new-requires
new-requires c =
    let at : All (λ place. place < length c.args.core.now.shape.points) c.in_ok-guarded-in-Parity.guarded = subst (λ (ps : List ℕ). All (λ place. place < length c.args.core.now.shape.points) ps) (sym c.in_ok-guarded-in-Parity.ensures) (guarded_below (shown c.args.core.now c.args.policy.now) c.args.measure) in
    subst (λ (n : ℕ). All (λ place. place < n) c.in_ok-guarded-in-Parity.guarded) (sym c.len.ensures.len) at
