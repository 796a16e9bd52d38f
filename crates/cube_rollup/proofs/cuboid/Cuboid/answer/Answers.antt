use Rattle.std.specs.List.{All, sum_by}
use Rattle.std.specs.Option.{IfSome}
use Rattle.std.proofs.Common.{◌≡◌, ◌∙◌, List, ℤ, Option, length, map, refl, sym, ap, subst, arith}
use Rattle.std.proofs.lemmas.List.{length-map}
use Rattle.std.proofs.lemmas.Result.{IfOk-weaker}
use Rattle.cube_model.specs.declared.answer.AnswerRow.{AnswerRow}
use Rattle.cube_model.specs.declared.answer.Row.{Row}
use Rattle.cube_model.specs.declared.policy.Policy.{Policy}
use Rattle.cube_model.specs.Cores.{shown}
use Rattle.cube_model.specs.Dims.{Dims, plains}
use Rattle.cube_model.specs.Requests.{rows}
use Rattle.cube_core.specs.Grouping.{pointed, ArePoints}
use Rattle.cube_core.specs.Rows.{ArePlaces}
use Rattle.cube_core.specs.Tallies.{summed_row, AreBounded}
use Rattle.cube_rollup.proofs.Cells.{no_policy, points_of, as_many, few_in_rows, answer_is, each_of}
use Rattle.cube_rollup.proofs.cuboid.Cuboid.answer.Goals as goal

pub sums_of-requires-clause-points : goal.sums_of-requires-clause-points
sums_of-requires-clause-points g c =
    let s = c.requires.stands in
    subst (λ (d : Dims). ArePoints (plains d) c.points-points.result.now) s.1 (subst (ArePoints (plains s.0.dims)) (sym c.points-points.ensures) (points_of s.0 c.args.self.now s.2))

pub sums_of-requires-clause-values : goal.sums_of-requires-clause-values
sums_of-requires-clause-values g c =
    let s = c.requires.stands in
    ap length c.sums.ensures ∙ length-map c.args.self.now.cells (λ (cell : AnswerRow). cell.sum) ∙ sym (ap length c.points-points.ensures ∙ as_many s.0 c.args.self.now s.2)

pub sums_of-requires-clause-bounded : goal.sums_of-requires-clause-bounded
sums_of-requires-clause-bounded g c = subst AreBounded (sym c.sums.ensures) c.cells-bounds.ensures.bounded

pub returns-in_err-found-clause-steps : goal.returns-in_err-found-clause-steps
returns-in_err-found-clause-steps g c =
    let s = c.requires.stands in
    let many = ap length c.points-points.ensures ∙ as_many s.0 c.args.self.now s.2 in
    let steps = c.sums_of.ensures.steps in
    omega (arith, many, steps)

pub returns-in-Some-clause-answer : goal.returns-in-Some-clause-answer
returns-in-Some-clause-answer g c = λ core p dims stands. (
    let own = subst (λ (o : Option (List AnswerRow)). IfSome o (λ answer. (p : Policy) → answer ≡ map (summed_row c.sums.result.now) (rows (shown (pointed c.args.dims.now c.points-points.result.now) p) c.args.request.now))) c.in-Some.is c.in_ok-found.ensures.sums in
    own p ∙ ap (λ (vs : List ℤ). map (summed_row vs) (rows (shown (pointed c.args.dims.now c.points-points.result.now) p) c.args.request.now)) c.sums.ensures
    ∙ answer_is core c.args.self.now c.args.dims.now c.points-points.result.now c.args.request.now p (rows (shown (pointed c.args.dims.now c.points-points.result.now) p) c.args.request.now) stands dims c.points-points.ensures c.requires.measure c.requires.fits c.requires.finer refl)

pub returns-in-Some-clause-steps : goal.returns-in-Some-clause-steps
returns-in-Some-clause-steps g c =
    let s = c.requires.stands in
    let many = ap length c.points-points.ensures ∙ as_many s.0 c.args.self.now s.2 in
    let steps = c.in_ok-found.ensures.steps in
    omega (arith, many, steps)

pub rows_of-requires-clause-points : goal.rows_of-requires-clause-points
rows_of-requires-clause-points g c =
    let s = c.requires.stands in
    subst (λ (d : Dims). ArePoints (plains d) c.points-points.result.now) s.1 (subst (ArePoints (plains s.0.dims)) (sym c.points-points.ensures) (points_of s.0 c.args.self.now s.2))

pub sum_rows-requires : goal.sum_rows-requires
sum_rows-requires g c =
    let s = c.requires.stands in
    let many = ap length c.points-points.ensures ∙ as_many s.0 c.args.self.now s.2 in
    each_of (λ (row : Row). ArePlaces (length c.args.self.now.cells) row.places) c.in_ok-rows.rows (subst (λ n. All (λ (row : Row). ArePlaces n row.places) c.in_ok-rows.rows) many c.in_ok-rows.ensures.places)

pub returns-clause-answer : goal.returns-clause-answer
returns-clause-answer g c =
    IfOk-weaker c.sum_rows.result _ _ (λ answer is core p dims stands. is ∙ answer_is core c.args.self.now c.args.dims.now c.points-points.result.now c.args.request.now p c.in_ok-rows.rows stands dims c.points-points.ensures c.requires.measure c.requires.fits c.requires.finer (c.in_ok-rows.ensures.rows p)) c.sum_rows.ensures.sums

pub returns-clause-steps : goal.returns-clause-steps
returns-clause-steps g c =
    let s = c.requires.stands in
    let many = ap length c.points-points.ensures ∙ as_many s.0 c.args.self.now s.2 in
    let few = few_in_rows (pointed c.args.dims.now c.points-points.result.now) c.args.request.now no_policy in
    let same = ap (sum_by (λ (row : Row). length row.places)) (c.in_ok-rows.ensures.rows no_policy) in
    let none = c.in_ok-found.ensures.none c.in_default.is in
    let steps = c.sum_rows.ensures.steps in
    omega (arith, many, few, same, none, steps)
