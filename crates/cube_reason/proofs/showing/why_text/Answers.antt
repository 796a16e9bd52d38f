use Rattle.std.proofs.Common.{◌≡◌, List, ℕ, sym, ap, ◌∙◌, subst}
use Rattle.std.proofs.lemmas.Result.{IfOk-weaker}
use Rattle.cube_model.specs.declared.policy.Policy.{Policy}
use Rattle.cube_model.specs.declared.verdict.Verdict.{Verdict}
use Rattle.cube_model.specs.Cores.{shown}
use Rattle.cube_answers.specs.VerdictText.{verdict_text}
use Rattle.cube_reason.specs.Showing.{IsWhy}
use Rattle.cube_reason.proofs.Judged.{judged_case}
use Rattle.cube_reason.proofs.showing.why_text.Goals as goal

pub returns-in-Full : goal.returns-in-Full
returns-in-Full c =
    let s = c.args.core.now.dims in
    let g = shown c.args.core.now c.args.policy.now in
    IfOk-weaker c.verdict_text.result
    (λ (text : List ℕ). (p : Policy) → text ≡ verdict_text s (shown c.args.core.now p) c.args.verdict.now)
    (λ (text : List ℕ). IsWhy s g c.args.history.now c.args.request.now c.args.verdict.now text)
    (λ text f. subst (λ (v : Verdict). IsWhy s g c.args.history.now c.args.request.now v text) (sym c.in-Full.is) (f c.args.policy.now ∙ ap (verdict_text s g) c.in-Full.is)) c.verdict_text.ensures

pub shown_text-requires-clause-case : goal.shown_text-requires-clause-case
shown_text-requires-clause-case c = judged_case _ c.requires.policy c.requires.admissible c.requires.valid

pub shown_text-requires-in-Pair-clause-case : goal.shown_text-requires-in-Pair-clause-case
shown_text-requires-in-Pair-clause-case c = judged_case _ c.requires.policy c.requires.admissible c.requires.valid

pub shown_text-requires-in-Single-clause-case : goal.shown_text-requires-in-Single-clause-case
shown_text-requires-in-Single-clause-case c = judged_case _ c.requires.policy c.requires.admissible c.requires.valid
