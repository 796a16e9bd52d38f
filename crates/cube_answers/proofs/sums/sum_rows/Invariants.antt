use Rattle.std.proofs.Common.{◌≡◌, ◌++◌, length, map}
use Rattle.std.specs.List.{AllByRecursion}
use Rattle.std.specs.Vec.Iter.{into_iter_items}
use Rattle.cube_core.specs.Rows.{ArePlaces}
use Rattle.cube_answers.specs.Sums.{row_sum}
use Rattle.cube_answers.proofs.sums.sum_rows.Given as goal

abbrev pub invariant-loop-row : goal.invariant-loop-row
invariant-loop-row g l =
    (l.answer ++ map (row_sum l.core l.what) (into_iter_items l.row-iterator) ≡ map (row_sum l.core l.what) l.fn.rows)
    × AllByRecursion (λ row. ArePlaces (length l.core.shape.points) row.places) (into_iter_items l.row-iterator)
