use Rattle.std.specs.Option.{IfSome}
use Rattle.std.proofs.Common.{◌≤◌, ◌∙◌, List, ℕ, ℤ, Option, Some, None, length, map, flat_map, refl, sym, ap, subst, arith}
use Rattle.std.specs.List.{AllByRecursion}
use Rattle.std.proofs.lemmas.List.{length-map}
use Rattle.std.proofs.lemmas.Result.{IfOk-weaker}
use Rattle.cube_model.specs.declared.answer.AnswerRow.{AnswerRow}
use Rattle.cube_model.specs.Cores.{shown}
use Rattle.cube_model.specs.Dims.{Dims, plains}
use Rattle.cube_model.specs.Requests.{rows}
use Rattle.cube_core.specs.Grouping.{pointed, ArePoints}
use Rattle.cube_core.specs.Tallies.{summed_row, row_of_tally, AreBounded}
use Rattle.cube_core.specs.declared.tally.Tally.{Tally}
use Rattle.cube_rollup.proofs.Cells.{points_of, as_many, answer_is}
use Rattle.cube_rollup.proofs.cuboid.Cuboid.tallies.Goals as goal

if_some : {T : Type 0} (o : Option T) {P Q : T → Type 0} → IfSome o P → ((x : T) → P x → Q x) → IfSome o Q
if_some (Some x) p f = f x p
if_some None p f = p

pub tallies_of-requires-clause-points : goal.tallies_of-requires-clause-points
tallies_of-requires-clause-points g c =
    let s = c.requires.stands in
    subst (λ (d : Dims). ArePoints (plains d) c.points-points.result.now) s.1 (subst (ArePoints (plains s.0.dims)) (sym c.points-points.ensures) (points_of s.0 c.args.self.now s.2))

pub tallies_of-requires-clause-values : goal.tallies_of-requires-clause-values
tallies_of-requires-clause-values g c =
    let s = c.requires.stands in
    ap length c.sums.ensures ∙ length-map c.args.self.now.cells (λ (cell : AnswerRow). cell.sum) ∙ sym (ap length c.points-points.ensures ∙ as_many s.0 c.args.self.now s.2)

pub tallies_of-requires-clause-bounded : goal.tallies_of-requires-clause-bounded
tallies_of-requires-clause-bounded g c = subst AreBounded (sym c.sums.ensures) c.cells-bounds.ensures.bounded

pub returns-clause-answer : goal.returns-clause-answer
returns-clause-answer g c = IfOk-weaker c.tallies_of.result _ _ (λ found h. if_some found h (λ tallies made core p dims stands. (
    ap (λ (xs : List (List ℕ)). flat_map (row_of_tally (pointed c.args.dims.now xs) c.args.request.now) tallies.items) (sym c.points-points.ensures)
    ∙ made.rows p
    ∙ ap (λ (vs : List ℤ). map (summed_row vs) (rows (shown (pointed c.args.dims.now c.points-points.result.now) p) c.args.request.now)) c.sums.ensures
    ∙ answer_is core c.args.self.now c.args.dims.now c.points-points.result.now c.args.request.now p (rows (shown (pointed c.args.dims.now c.points-points.result.now) p) c.args.request.now) stands dims c.points-points.ensures c.requires.measure c.requires.fits c.requires.finer refl))) c.tallies_of.ensures.tallies

pub returns-clause-marks : goal.returns-clause-marks
returns-clause-marks g c = IfOk-weaker c.tallies_of.result _ _ (λ found h. if_some found h (λ tallies made.
    subst (λ (xs : List (List ℕ)). AllByRecursion (λ (t : Tally). t.mark ≤ length xs) tallies.items) c.points-points.ensures made.marks)) c.tallies_of.ensures.tallies

pub returns-clause-points : goal.returns-clause-points
returns-clause-points g c =
    let s = c.requires.stands in
    subst (λ (d : Dims). ArePoints (plains d) c.args.self.now.points) s.1 (points_of s.0 c.args.self.now s.2)

pub returns-clause-steps : goal.returns-clause-steps
returns-clause-steps g c =
    let s = c.requires.stands in
    let many = ap length c.points-points.ensures ∙ as_many s.0 c.args.self.now s.2 in
    let steps = c.tallies_of.ensures.steps in
    omega (arith, many, steps)
