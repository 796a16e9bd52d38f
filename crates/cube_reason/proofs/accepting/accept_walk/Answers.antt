use Rattle.std.proofs.Common.{sym, ◌∙◌, subst}
use Rattle.cube_model.specs.Cores.{shown}
use Rattle.cube_model.specs.Cubes.{IsIn}
use Rattle.cube_model.specs.LinkLaws.{IsOfPlaces}
use Rattle.cube_model.specs.Reasons.{links_by}
use Rattle.cube_reason.specs.Tied.{AreTies}
use Rattle.cube_reason.proofs.Accepted.{astray, led_there, tell_all}
use Rattle.cube_reason.proofs.accepting.accept_walk.Goals as goal

pub joints_of-requires : goal.joints_of-requires
joints_of-requires c = λ t k. subst (λ n. IsOfPlaces n t.link) (sym c.len.ensures.len) (c.in_ok-ties.ensures.places t (subst (IsIn t) c.as_slice.ensures.value k))

pub returns-in-None : goal.returns-in-None
returns-in-None c =
    let named = links_by (shown c.args.case.now.core.now c.args.case.now.policy.now) c.args.case.now.history.now c.args.case.now.request.now c.args.measure in
    let tell = tell_all named _ _ _ _ _ _ c.in_ok-ties.ensures.ties c.in_ok-ties.ensures.places c.len.ensures.len c.as_slice.ensures.value c.in_ok-joints.ensures c.as_slice-2.ensures.value in
    astray (shown c.args.case.now.core.now c.args.case.now.policy.now) c.args.case.now.history.now c.args.case.now.request.now c.args.measure c.args.place c.args.steps.now c.args.end (sym c.in_ok-is_guarded.ensures ∙ c.if-not-branch.false) (sym (c.led.ensures named tell) ∙ c.in-None.is)

pub returns : goal.returns
returns c =
    let named = links_by (shown c.args.case.now.core.now c.args.case.now.policy.now) c.args.case.now.history.now c.args.case.now.request.now c.args.measure in
    let tell = tell_all named _ _ _ _ _ _ c.in_ok-ties.ensures.ties c.in_ok-ties.ensures.places c.len.ensures.len c.as_slice.ensures.value c.in_ok-joints.ensures c.as_slice-2.ensures.value in
    c.ends.ensures
    ∙ led_there (shown c.args.case.now.core.now c.args.case.now.policy.now) c.args.case.now.history.now c.args.case.now.request.now c.args.measure c.args.place c.args.steps.now c.args.end c.as_slice-in-Some.result.now c.in-Some.at
    (subst (AreTies named) (sym c.as_slice-in-Some.ensures.value) c.in_ok-ties.ensures.ties) (sym c.in_ok-is_guarded.ensures ∙ c.if-not-branch.false) (sym (c.led.ensures named tell) ∙ c.in-Some.is)
