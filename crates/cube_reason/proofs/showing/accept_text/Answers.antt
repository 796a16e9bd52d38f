use Rattle.std.proofs.Common.{◌≡◌, ◌↔◌, ◌++◌, Bool, true, List, ℕ, ap, ◌∙◌}
use Rattle.std.proofs.lemmas.Result.{IfOk-weaker}
use Rattle.cube_model.specs.Cores.{shown}
use Rattle.cube_answers.specs.VerdictText.{verdict_text}
use Rattle.cube_reason.specs.Showing.{HasLines, Shows}
use Rattle.cube_reason.proofs.Judged.{judged_case}
use Rattle.cube_reason.proofs.Only.{lines_show, shows_lines}
use Rattle.cube_reason.proofs.showing.accept_text.Goals as goal

pub returns-clause-exact : goal.returns-clause-exact
returns-clause-exact c =
    let s = c.args.core.now.dims in
    let g = shown c.args.core.now c.args.policy.now in
    let h = c.args.history.now in
    let r = c.args.request.now in
    let v = c.args.verdict.now in
    let rest = c.in-Some.lines.now in
    let is : c.args.text.now ≡ verdict_text s g v ++ rest = c.in-Some.ensures.some ∙ ap (λ (t : List ℕ). t ++ rest) (c.as_slice.ensures ∙ c.in_ok-line.ensures c.args.policy.now) in
    IfOk-weaker c.accept_lines.result
    (λ (taken : Bool). (taken ≡ true) ↔ HasLines s g h r v rest)
    (λ (taken : Bool). (taken ≡ true) ↔ Shows s g h r v c.args.text.now)
    (λ taken f. (λ t. lines_show s g h r v c.args.text.now rest is (f.0 t), λ w. f.1 (shows_lines s g h r v c.args.text.now rest is w))) c.accept_lines.ensures

pub accept_lines-requires-clause-case : goal.accept_lines-requires-clause-case
accept_lines-requires-clause-case c = judged_case _ c.requires.policy c.requires.admissible c.requires.valid
