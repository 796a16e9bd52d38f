use Rattle.std.proofs.Common.{◌≡◌, length, map, take}
use Rattle.cube_facts.specs.Blocks.{fact_held, Takes}
use Rattle.cube_facts.proofs.blocks.read_block.Given as goal

abbrev pub invariant-loop-many : goal.invariant-loop-many
invariant-loop-many g l = Takes l.layout.dims.now l.layout.header l.earlier (g.R.Records.left l.fn.records) (map fact_held (take l.many l.block.items)) (g.R.Records.left l.records) × (length l.block.items ≡ length l.fn.block.items)
