use Rattle.std.proofs.Common.{[], get_or, sym, ◌∙◌}
use Rattle.cube_draft.proofs.Steps.{compared_more}
use Rattle.cube_draft.proofs.check.is_path.Goals as goal

pub loop-level-preserved : goal.loop-level-preserved
loop-level-preserved c =
    let fields = c.args.table.now.fields.items in
    compared_more (λ place. get_or (get_or fields place []) c.args.row []) c.args.path.now c.args.columns.now c.loop-level.level c.index-path-level.result c.loop-level-test.true c.if-path-columns.false c.loop-level.invariant c.index-path-level.is
    (sym c.as_slice.ensures ∙ c.are_same.ensures c.if-not-are_same.false ∙ c.field_in-field.ensures)
