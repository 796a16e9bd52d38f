use Rattle.std.proofs.Common.{◌≡◌, take}
use Rattle.cube_source.specs.Blocks.{bare}
use Rattle.cube_source.specs.Pairs as pairs
use Rattle.cube_source.proofs.pair.least_pair.Given as goal

abbrev pub invariant-rows : goal.invariant-rows
invariant-rows l = l.least ≡ pairs.least_pair (bare l.core) l.cell (take l.block-index l.blocks)
