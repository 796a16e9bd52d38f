use Rattle.std.proofs.Common.{◌≡◌, ◌≤◌, length, map, filter}
use Rattle.cube_model.specs.Cubes.{count_from}
use Rattle.cube_model.specs.Protection.{core_cell, is_guarded}
use Rattle.cube_source.specs.Blocks.{bare}
use Rattle.cube_source.specs.Objects.{of_measure}
use Rattle.cube_source.proofs.listing.parity_cells.Given as goal

abbrev pub invariant-places : goal.invariant-places
invariant-places l = record {
  room : length l.cells ≤ l.most;
  added : l.cells ≡ map (core_cell (bare l.core)) (filter (is_guarded (bare l.core) (of_measure l.measure l.objects)) (count_from 0 l.place));
}
