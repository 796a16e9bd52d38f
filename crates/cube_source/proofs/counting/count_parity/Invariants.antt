use Rattle.std.proofs.Common.{◌≡◌, ◌≤◌, length, filter}
use Rattle.cube_model.specs.Cubes.{count_from}
use Rattle.cube_model.specs.Protection.{is_guarded}
use Rattle.cube_source.specs.Blocks.{bare}
use Rattle.cube_source.specs.Objects.{of_measure}
use Rattle.cube_source.proofs.counting.count_parity.Given as goal

abbrev pub invariant-places : goal.invariant-places
invariant-places l = record {
  counted : l.total ≡ length (filter (is_guarded (bare l.core) (of_measure l.measure l.objects)) (count_from 0 l.place));
  small : l.total ≤ l.place;
}
