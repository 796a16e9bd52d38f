use Rattle.std.specs.List.{AllByRecursion}
use Rattle.std.specs.Option.{IfSome}
use Rattle.std.proofs.Common.{◌≡◌, ◌≤◌, ◌∙◌, ℕ, List, length, sym, ap, ap₂, subst, flat_map}
use Rattle.std.proofs.lemmas.Result.{IfOk-weaker}
use Rattle.cube_model.specs.declared.answer.AnswerRow.{AnswerRow}
use Rattle.cube_model.specs.declared.policy.Policy.{Policy}
use Rattle.cube_model.specs.Cores.{world}
use Rattle.cube_model.specs.Dims.{Dims, plains}
use Rattle.cube_model.specs.Requests.{answer as answer_of}
use Rattle.cube_core.specs.Grouping.{pointed, ArePoints}
use Rattle.cube_core.specs.Tallies.{row_of_tally}
use Rattle.cube_core.specs.declared.tally.Tally.{Tally}
use Rattle.cube_answers.specs.AnswerText.{answer_text as answer_words}
use Rattle.cube_engine.proofs.rolling.grouped_text.Goals as goal

pub tallied_text-requires-clause-points : goal.tallied_text-requires-clause-points
tallied_text-requires-clause-points g c =
    subst (λ (s : Dims). ArePoints (plains s) c.points-points.result.now) (sym c.dims.ensures.dims) (subst (ArePoints (plains c.args.core.now.dims)) (sym c.points-points.ensures) c.in_ok-found.ensures.points)

pub tallied_text-requires-clause-marks : goal.tallied_text-requires-clause-marks
tallied_text-requires-clause-marks g c =
    let own = subst (λ o. IfSome o (λ tallies. AllByRecursion (λ (t : Tally). t.mark ≤ length c.args.cuboid.now.points) tallies.items)) c.in-Some.is c.in_ok-found.ensures.marks in
    subst (λ (ts : List Tally). AllByRecursion (λ (t : Tally). t.mark ≤ length c.points-points.result.now) ts) (sym c.as_slice.ensures.value)
    (subst (λ (xs : List (List ℕ)). AllByRecursion (λ (t : Tally). t.mark ≤ length xs) c.in-Some.tallies.items) (sym c.points-points.ensures) own)

pub returns-in-Some-clause-text : goal.returns-in-Some-clause-text
returns-in-Some-clause-text g c =
    let core = c.args.core.now in
    let r = c.args.request.now in
    let own = subst (λ o. IfSome o (λ tallies. (p : Policy) → flat_map (row_of_tally (pointed c.args.core.now.dims c.args.cuboid.now.points) c.args.request.now) tallies.items ≡ answer_of (world c.args.core.now p) c.args.request.now)) c.in-Some.is c.in_ok-found.ensures.rows in
    IfOk-weaker c.tallied_text.result _ _ (λ text e p. (
    e ∙ ap (λ (ts : List Tally). answer_words c.dims.result.now r (flat_map (row_of_tally (pointed c.dims.result.now c.points-points.result.now) r) ts)) c.as_slice.ensures.value
    ∙ ap₂ (λ (s : Dims) (xs : List (List ℕ)). answer_words s r (flat_map (row_of_tally (pointed s xs) r) c.in-Some.tallies.items)) c.dims.ensures.dims c.points-points.ensures
    ∙ ap (λ (rows : List AnswerRow). answer_words core.dims r rows) (own p))) c.tallied_text.ensures
