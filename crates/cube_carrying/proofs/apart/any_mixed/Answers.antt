use Rattle.std.specs.List.{list_any}
use Rattle.std.proofs.Common.{length, sym, ap, ◌∙◌}
use Rattle.std.proofs.lemmas.List.{drop_all}
use Rattle.cube_model.specs.declared.answer.Row.{Row}
use Rattle.cube_source.proofs.Rows.{block_places}
use Rattle.cube_source.proofs.Steps.{any_skip, any_hit}
use Rattle.cube_carrying.specs.Standing.{is_mixed}
use Rattle.cube_carrying.proofs.apart.any_mixed.Goals as goal

pub is_mixed-requires : goal.is_mixed-requires
is_mixed-requires c = block_places (length c.args.flags.now) c.args.rows.now c.rows.row-index c.row-item.result c.as_slice.result.now c.requires c.rows-test.true c.row-item.is c.as_slice.ensures

pub rows-preserved : goal.rows-preserved
rows-preserved c = any_skip (λ (row : Row). is_mixed c.args.flags.now row.places) c.args.rows.now c.rows.row-index c.row-item.result (list_any (λ (row : Row). is_mixed c.args.flags.now row.places) c.args.rows.now) c.rows-test.true c.row-item.is
    (ap (is_mixed c.args.flags.now) (sym c.as_slice.ensures) ∙ sym c.is_mixed.ensures ∙ c.if-is_mixed.false) c.rows.invariant

pub returns-then-is_mixed : goal.returns-then-is_mixed
returns-then-is_mixed c = any_hit (λ (row : Row). is_mixed c.args.flags.now row.places) c.args.rows.now c.rows.row-index c.row-item.result (list_any (λ (row : Row). is_mixed c.args.flags.now row.places) c.args.rows.now) c.rows-test.true c.row-item.is
    (ap (is_mixed c.args.flags.now) (sym c.as_slice.ensures) ∙ sym c.is_mixed.ensures ∙ c.if-is_mixed.true) c.rows.invariant

pub returns : goal.returns
returns c = sym (ap (list_any (λ (row : Row). is_mixed c.args.flags.now row.places)) (drop_all c.rows.row-index c.args.rows.now c.rows-test.false)) ∙ c.rows.invariant
