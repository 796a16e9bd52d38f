use Rattle.std.proofs.Common.{◌≤◌, length}
use Rattle.cube_facts.specs.Blocks.{Reads}
use Rattle.cube_facts.proofs.file.read_points.Given as goal

abbrev pub invariant-turns : goal.invariant-turns
invariant-turns g l = Reads l.dims (g.R.Records.left l.fn.records) l.layout.header l.points l.earlier (g.R.Records.left l.records) × (length l.block.items ≤ 128) × (l.earlier ≤ 1000000)
