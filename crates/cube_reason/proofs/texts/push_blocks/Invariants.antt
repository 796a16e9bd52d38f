use Rattle.std.specs.List.{flat_map}
use Rattle.std.proofs.Common.{◌≡◌, ◌++◌, drop}
use Rattle.cube_reason.specs.ReasonText.{block_line}
use Rattle.cube_reason.proofs.texts.push_blocks.Given as goal

abbrev pub invariant-loop-block : goal.invariant-loop-block
invariant-loop-block l = l.text ++ flat_map (block_line l.dims) (drop l.block-index l.blocks) ≡ l.fn.text ++ flat_map (block_line l.dims) l.blocks
