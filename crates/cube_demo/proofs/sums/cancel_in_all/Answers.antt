use Rattle.std.specs.List.{All}
use Rattle.std.proofs.Common.{List, length, subst, sym, ◌∙◌}
use Rattle.cube_model.specs.declared.answer.Row.{Row}
use Rattle.cube_core.specs.Rows.{ArePlaces}
use Rattle.cube_demo.proofs.sums.cancel_in_all.Goals as goal

pub cancel_in-requires-clause-places : goal.cancel_in-requires-clause-places
cancel_in-requires-clause-places c =
    subst (λ (rows : List Row). All (λ (row : Row). ArePlaces (length c.args.signs.now) row.places) rows) (sym (c.as_slice.ensures ∙ c.rows-item.is)) (c.requires.places c.tables.rows-index c.rows-item.result c.tables-test.true)
