use Rattle.std.proofs.Common.{length, subst, sym}
use Rattle.cube_model.specs.declared.answer.Row.{Row}
use Rattle.cube_core.specs.Rows.{ArePlaces}
use Rattle.cube_demo.proofs.sums.cancel_in.Goals as goal

pub cancels-requires-clause-places : goal.cancels-requires-clause-places
cancels-requires-clause-places c = subst (λ (row : Row). ArePlaces (length c.args.signs.now) row.places) (sym c.row-item.is) (c.requires.places c.rows.row-index c.row-item.result c.rows-test.true)
