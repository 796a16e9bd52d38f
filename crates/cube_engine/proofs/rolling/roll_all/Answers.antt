use Rattle.std.proofs.Common.{◌+◌, ◌∙◌, ℕ, [], ◌∷◌, length, length-append, ap}
use Rattle.cube_model.specs.Cores.{shown}
use Rattle.cube_engine.proofs.Cuboids.{one_more}
use Rattle.cube_engine.proofs.rolling.roll_all.Goals as goal

pub measures-preserved : goal.measures-preserved
measures-preserved g c =
    let invariant = c.measures.invariant in
    record {
      long = ap length c.in_ok-push.ensures.kept ∙ length-append c.measures.rollups.kept (c.in_ok-cuboid.cuboid ∷ []) ∙ ap (λ (n : ℕ). n + 1) invariant.long;
      none = c.in_ok-push.ensures.next ∙ invariant.none;
      each = one_more c.args.core.now (shown c.args.core.now c.args.policy.now) c.args.state.now.history c.measures.rollups.kept c.push.new.self.kept c.measures.measure c.in_ok-cuboid.cuboid invariant.long invariant.each c.in_ok-cuboid.ensures c.in_ok-push.ensures.kept;
    }
