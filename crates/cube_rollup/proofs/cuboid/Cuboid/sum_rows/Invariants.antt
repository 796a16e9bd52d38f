use Rattle.std.specs.List.{sum_by, AllByRecursion}
use Rattle.std.specs.Vec.Iter.{into_iter_items}
use Rattle.std.proofs.Common.{◌≡◌, ◌+◌, ◌++◌, length, map}
use Rattle.cube_core.specs.Rows.{ArePlaces}
use Rattle.cube_rollup.specs.Cuboids.{sums_of}
use Rattle.cube_core.specs.Tallies.{summed_row}
use Rattle.cube_rollup.proofs.cuboid.Cuboid.sum_rows.Given as goal

abbrev pub invariant-rows : goal.invariant-rows
invariant-rows g l = record {
  summed : l.answer ++ map (summed_row (sums_of l.self.cells)) (into_iter_items l.row-iterator) ≡ map (summed_row (sums_of l.self.cells)) l.fn.rows;
  rows : AllByRecursion (λ row. ArePlaces (length l.self.cells) row.places) (into_iter_items l.row-iterator);
  counted : l.steps + sum_by (λ row. length row.places) (into_iter_items l.row-iterator) ≡ l.fn.steps + sum_by (λ row. length row.places) l.fn.rows;
}
