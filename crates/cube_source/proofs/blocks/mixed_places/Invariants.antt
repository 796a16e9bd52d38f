use Rattle.std.proofs.Common.{length, take}
use Rattle.cube_source.specs.Blocks.{bare, is_mixed, AreFlags}
use Rattle.cube_source.proofs.blocks.mixed_places.Given as goal

abbrev pub invariant-rows : goal.invariant-rows
invariant-rows l = AreFlags (length l.core.shape.points) (is_mixed (bare l.core) l.levels (take l.block-index l.blocks)) l.flags.items
