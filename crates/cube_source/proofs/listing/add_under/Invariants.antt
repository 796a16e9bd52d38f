use Rattle.std.specs.List.{flat_map}
use Rattle.std.proofs.Common.{◌≡◌, ◌≤◌, ◌++◌, length, filter, take}
use Rattle.cube_model.specs.Protection.{touched}
use Rattle.cube_source.specs.Blocks.{bare}
use Rattle.cube_source.specs.Fresh.{is_fresh}
use Rattle.cube_source.proofs.listing.add_under.Given as goal

abbrev pub invariant-levels : goal.invariant-levels
invariant-levels l = record {
  room : length l.cells ≤ l.most;
  added : l.cells ≡ take l.most (l.initial.cells ++ filter (is_fresh (bare l.core) l.earlier l.object.measure) (flat_map (touched (bare l.core) l.object) (take l.levels-index l.levels-items)));
}
