use Rattle.std.proofs.Common.{[], get_or, ap, sym, ◌∙◌}
use Rattle.cube_draft.specs.Drafts.{level_name}
use Rattle.cube_draft.proofs.Steps.{compared_more}
use Rattle.cube_draft.proofs.check.are_named.Goals as goal

pub loop-level-preserved : goal.loop-level-preserved
loop-level-preserved c =
    let header = c.args.header.now in
    compared_more (λ place. level_name (get_or header place [])) c.args.levels.now c.args.columns.now c.loop-level.level c.index-levels-level.result c.loop-level-test.true c.if-levels-columns.false c.loop-level.invariant c.index-levels-level.is
    (sym c.as_slice.ensures ∙ c.are_same.ensures c.if-not-are_same.false ∙ c.level_name-name.ensures ∙ ap level_name c.name_at.ensures)
