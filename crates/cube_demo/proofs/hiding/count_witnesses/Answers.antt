use Rattle.std.specs.List.{All}
use Rattle.std.proofs.Common.{◌≡◌, ◌≤◌, ℕ, List, [], length, ap, sym, subst, ◌∙◌, arith}
use Rattle.std.proofs.lemmas.List.{length-take}
use Rattle.cube_model.specs.declared.answer.Row.{Row}
use Rattle.cube_model.specs.Cores.{shown}
use Rattle.cube_model.specs.Dims.{Dims}
use Rattle.cube_model.specs.Protection.{protected}
use Rattle.cube_core.specs.Rows.{ArePlaces}
use Rattle.cube_demo.specs.Hiding.{witness_count}
use Rattle.cube_demo.proofs.Cells.{first_protected, none_counted, witnesses_are}
use Rattle.cube_demo.proofs.Steps.{ok_map, verdicts_long}
use Rattle.cube_demo.proofs.hiding.count_witnesses.Goals as goal

pub returns-then-measure-measures-clause-count : goal.returns-then-measure-measures-clause-count
returns-then-measure-measures-clause-count c =
    let above : length c.args.core.now.dims.measures ≤ c.args.measure = omega (arith, ap length c.measures.ensures.measures, ap (λ (s : Dims). length s.measures) c.dims.ensures.dims, c.if-measure-measures.true) in
    none_counted c.args.core.now c.args.policy.now c.args.measure c.args.requests.now c.requires.policy above

pub rows_on-requires-clause-even : goal.rows_on-requires-clause-even
rows_on-requires-clause-even c = ap length c.requires.verdicts ∙ verdicts_long (shown c.args.core.now c.args.policy.now) [] c.args.requests.now

pub count_hidden-requires-clause-places : goal.count_hidden-requires-clause-places
count_hidden-requires-clause-places c =
    subst (All (λ (rows : List Row). All (λ (row : Row). ArePlaces (length c.args.core.now.shape.points) row.places) rows)) (sym c.as_slice-tables.ensures) c.in_ok-tables.ensures.places

pub count_hidden-requires-clause-protected : goal.count_hidden-requires-clause-protected
count_hidden-requires-clause-protected c = first_protected (shown c.args.core.now c.args.policy.now) c.args.measure 100 c.as_slice-cells.result.now (c.as_slice-cells.ensures ∙ c.in_ok-cells.ensures)

pub returns-clause-count : goal.returns-clause-count
returns-clause-count c =
    let g = shown c.args.core.now c.args.policy.now in
    ok_map _ (λ (n : ℕ). n ≡ witness_count g c.args.requests.now c.args.measure) c.count_hidden.result
    (λ n is. witnesses_are g c.args.measure n c.args.requests.now c.args.verdicts.now c.args.state.now.history c.as_slice-tables.result.now c.as_slice-cells.result.now c.requires.verdicts c.requires.history (c.as_slice-tables.ensures ∙ c.in_ok-tables.ensures.rows c.args.policy.now) (c.as_slice-cells.ensures ∙ c.in_ok-cells.ensures) is) c.count_hidden.ensures.count

pub returns-clause-few : goal.returns-clause-few
returns-clause-few c =
    let g = shown c.args.core.now c.args.policy.now in
    let long = ap length (c.as_slice-cells.ensures ∙ c.in_ok-cells.ensures) in
    let most = length-take 100 (protected g c.args.measure) in
    ok_map _ (λ (n : ℕ). n ≤ 100) c.count_hidden.result (λ n few. omega (arith, few, long, most)) c.count_hidden.ensures.few
