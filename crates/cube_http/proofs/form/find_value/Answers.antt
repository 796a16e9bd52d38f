use Rattle.std.proofs.Common.{◌∙◌, sym, refl, ap}
use Rattle.cube_http.specs.Form.{first_among}
use Rattle.cube_http.proofs.form.find_value.Goals as goal

pub loop-key-preserved : goal.loop-key-preserved
unfolding first_among
loop-key-preserved c =
    let inv = c.loop-key.invariant in
    let step = rw c.in-Some.is at c.next.ensures.steps in
    let different = sym c.eq.ensures ∙ c.if-eq.false in
    let key = c.as_str.ensures.value ∙ c.in_ok-key.ensures in
    (inv.0, inv.1, inv.2 ∙ rw (step, rw key at different) refl)

pub returns : goal.returns
unfolding first_among
returns c =
    let inv = c.loop-key.invariant in
    let step = rw c.in-None.is at c.next.ensures.steps in
    sym (inv.2 ∙ ap (first_among c.args.name.now) step.0)

pub returns-then-eq : goal.returns-then-eq
unfolding first_among
returns-then-eq c =
    let inv = c.loop-key.invariant in
    let step = rw c.in-Some.is at c.next.ensures.steps in
    let same = sym c.eq.ensures ∙ c.if-eq.true in
    let key = c.as_str.ensures.value ∙ c.in_ok-key.ensures in
    sym (inv.2 ∙ rw (step, rw key at same, c.in_ok-decode.ensures) refl)
