use Rattle.std.specs.List.{All}
use Rattle.std.proofs.Common.{◌<◌, List, length, sym, ◌∙◌, subst, arith}
use Rattle.cube_model.specs.declared.answer.Row.{Row}
use Rattle.cube_model.specs.Cores.{shown}
use Rattle.cube_core.specs.Rows.{ArePlaces}
use Rattle.cube_demo.specs.Hiding.{rows_on}
use Rattle.cube_demo.proofs.Steps.{rows_more, rows_same, all_more}
use Rattle.cube_demo.proofs.answers.rows_on.Goals as goal
use Rattle.cube_demo.proofs.answers.rows_on.Goals.{then-answers_on+in_ok-rows+in_ok-push, else-answers_on}

pub requests-preserved : goal.requests-preserved
requests-preserved c =
    let inv = c.requests.invariant in
    let i = c.requests.number in
    let rs = c.args.requests.now in
    let vs = c.args.verdicts.now in
    let even = c.requires.even in
    let there : i < length vs = omega (arith, even, c.requests-test.true) in
    let flat = λ (rows : List Row). All (λ (row : Row). ArePlaces (length c.args.core.now.shape.points) row.places) rows in
    elim c.if-answers_on.branch [
      | then-answers_on+in_ok-rows+in_ok-push w ↦ record {
        rows = λ p. rows_more (shown c.args.core.now p) c.args.measure rs vs i c.index-requests-number.result c.index-verdicts-number.result c.requests-test.true there c.index-requests-number.is c.index-verdicts-number.is c.requests.tables c.if-answers_on.tables (rows_on (shown c.args.core.now p) c.args.measure rs vs) w.in_ok-rows.field-0 (sym c.answers_on.ensures ∙ w.if-answers_on.true) (w.in_ok-rows.ensures.rows p) (w.tables-is ∙ w.in_ok-push.ensures.ok) (inv.rows p);
        places = all_more flat c.requests.tables c.if-answers_on.tables w.in_ok-rows.field-0 (w.tables-is ∙ w.in_ok-push.ensures.ok) inv.places w.in_ok-rows.ensures.places;
      }
      | else-answers_on w ↦ record {
        rows = λ p. rows_same (shown c.args.core.now p) c.args.measure rs vs i c.index-requests-number.result c.index-verdicts-number.result c.requests-test.true there c.index-requests-number.is c.index-verdicts-number.is c.requests.tables c.if-answers_on.tables (rows_on (shown c.args.core.now p) c.args.measure rs vs) (sym c.answers_on.ensures ∙ w.if-answers_on.false) w.tables-is (inv.rows p);
        places = subst (All flat) (sym w.tables-is) inv.places;
      }
    ]
