use Rattle.std.proofs.Common.{◌≡◌, ◌<◌, length, reverse, sym, ap, ◌∙◌, subst, arith}
use Rattle.cube_reason.specs.Searched.{visit_at}
use Rattle.cube_reason.specs.Tied.{bringer_view}
use Rattle.cube_reason.specs.Trails.{LeadsTo}
use Rattle.cube_reason.specs.declared.searching.Visit.{Visit}
use Rattle.cube_reason.proofs.Trailing.{Leads, leads_more, leads_end}
use Rattle.cube_reason.proofs.trails.steps_to.Goals as goal

pub loop-at-preserved : goal.loop-at-preserved
loop-at-preserved c =
    let below = c.loop-at.invariant.below in
    let before = c.requires.back c.loop-at.at c.loop-at-test.true c.loop-at.invariant.below in
    record {
      below = subst (λ (v : Visit). v.back < length c.args.visits.now) (sym c.visit_with-to.ensures) (omega (arith, before, below));
      leads = λ named joined. subst (λ (v : Visit). Leads named c.args.visits.now v.back c.args.number (reverse c.push.new.self.items)) (sym c.visit_with-to.ensures)
          (leads_more named c.args.visits.now c.loop-at.at c.args.number c.step.result c.loop-at.steps.items c.push.new.self.items joined c.loop-at-test.true c.loop-at.invariant.below
          (c.step.ensures.from ∙ ap (λ (v : Visit). v.place) (c.visit_with-from.ensures ∙ ap (λ (v : Visit). visit_at c.args.visits.now v.back) c.visit_with-to.ensures))
          (c.step.ensures.to ∙ ap (λ (v : Visit). v.place) c.visit_with-to.ensures)
          (c.step.ensures.by ∙ ap (λ (v : Visit). bringer_view v.by) c.visit_with-to.ensures)
          c.in_ok-push.ensures.items (c.loop-at.invariant.leads named joined));
    }

pub returns : goal.returns
returns c named joined =
    let zero : c.loop-at.at ≡ 0 = omega (arith, c.loop-at-test.false) in
    subst (LeadsTo named c.args.visits.now c.args.number) (sym (c.from_vec.ensures ∙ c.in_ok-turned.ensures ∙ ap reverse c.as_slice.ensures.value)) (leads_end named c.args.visits.now c.loop-at.at c.args.number (reverse c.loop-at.steps.items) joined zero (c.loop-at.invariant.leads named joined))
