use Rattle.std.proofs.Common.{length, sym, subst}
use Rattle.cube_model.specs.declared.answer.Row.{Row}
use Rattle.cube_core.specs.Rows.{ArePlaces}
use Rattle.trial_cubes.proofs.rows.told.Goals as goal

pub sum_row-requires-clause-places : goal.sum_row-requires-clause-places
sum_row-requires-clause-places g c =
    let are = c.requires.rows c.rows.row-index c.row-item.result c.rows-test.true in
    subst (λ (row : Row). ArePlaces (length c.args.core.now.shape.points) row.places) (sym c.row-item.is) are

pub count_row-requires : goal.count_row-requires
count_row-requires g c =
    let are = c.requires.rows c.rows.row-index c.row-item.result c.rows-test.true in
    subst (λ (row : Row). ArePlaces (length c.args.core.now.shape.points) row.places) (sym c.row-item.is) are
