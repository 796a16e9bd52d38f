use Rattle.std.specs.List.{sum_by, AllByRecursion}
use Rattle.std.specs.Vec.Iter.{into_iter_items}
use Rattle.std.proofs.Common.{◌≡◌, ◌+◌, ◌++◌, [], length, map, get_or}
use Rattle.cube_rollup.specs.Cuboids.{AreRowsOf}
use Rattle.cube_core.specs.Tallies.{summed_row}
use Rattle.cube_rollup.proofs.building.sum_rows.Given as goal

abbrev pub invariant-rows : goal.invariant-rows
invariant-rows g l = record {
  summed : l.cells ++ map (summed_row (get_or l.core.cube l.measure [])) (into_iter_items l.row-iterator) ≡ map (summed_row (get_or l.core.cube l.measure [])) l.fn.rows;
  rows : AllByRecursion (AreRowsOf (length l.core.shape.points)) (into_iter_items l.row-iterator);
  counted : l.steps + sum_by (λ row. length row.places) (into_iter_items l.row-iterator) ≡ l.fn.steps + sum_by (λ row. length row.places) l.fn.rows;
}
