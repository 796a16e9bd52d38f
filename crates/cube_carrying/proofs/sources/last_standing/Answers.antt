use Rattle.std.proofs.Common.{◌≡◌, ◌+◌, ◌-◌, ℕ, take, Some, ap, sym, ◌∙◌, arith}
use Rattle.cube_model.specs.Cores.{shown}
use Rattle.cube_carrying.specs.Standing.{can_stand, last_standing}
use Rattle.cube_carrying.proofs.Lasts.{last_kept}
use Rattle.cube_carrying.proofs.sources.last_standing.Goals as goal

pub returns-then-branch : goal.returns-then-branch
returns-then-branch c =
    let some = c.cuboids-test.true in
    let back : c.cuboids.number - 1 + 1 ≡ c.cuboids.number = omega (arith, some) in
    let all = c.cuboids.auto.number in
    ap Some c.in_ok-copied.ensures
    ∙ sym (last_kept (can_stand (shown c.args.core.now c.args.policy.now) c.args.flags.now c.args.measure) c.args.cuboids.now (c.cuboids.number - 1) c.index-cuboids-number.result (omega (arith, some, all)) c.index-cuboids-number.is (sym c.in_ok-can_stand.ensures ∙ c.if-branch.true))
    ∙ ap (λ (n : ℕ). last_standing (shown c.args.core.now c.args.policy.now) c.args.flags.now c.args.measure (take n c.args.cuboids.now)) back
    ∙ c.cuboids.invariant
