use Rattle.std.proofs.Common.{Some, sym, ap, ◌∙◌}
use Rattle.cube_model.specs.declared.policy.Method.{Method}
use Rattle.cube_model.specs.Entries.{asked}
use Rattle.cube_model.specs.Kept.{cell_at, unkept_by}
use Rattle.cube_answers.proofs.Keys.{any_policy}
use Rattle.cube_audit.specs.Keeping.{public_of}
use Rattle.cube_audit.proofs.keeping.unkept_at.Goals as goal

pub returns-in_ok-cell_at-in-Some : goal.returns-in_ok-cell_at-in-Some
returns-in_ok-cell_at-in-Some c =
    let g = public_of c.args.asked.now in
    let cell = c.in_ok-cell_at-in-Some.ensures.cell ∙ any_policy c.args.asked.now.core.now c.args.asked.now.policy.now c.in-Some.place in
    let place = sym c.in-Some.is ∙ c.in_ok-fixed_place-in-Parity.ensures.place in
    let way = sym c.method.ensures ∙ c.in-Parity.is in
    ap Some cell ∙ ap (cell_at g) place ∙ sym (ap (λ (w : Method). unkept_by w g (asked c.args.asked.now.requests.now) c.args.measure) way)
