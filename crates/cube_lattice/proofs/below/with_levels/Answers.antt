use Rattle.std.proofs.Common.{arith}
use Rattle.cube_lattice.proofs.Steps.{level_more, levels_end}
use Rattle.cube_lattice.proofs.below.with_levels.Goals as goal

pub firsts-preserved : goal.firsts-preserved
firsts-preserved c = level_more c.args.cuboids.now c.firsts.all c.push_all.new.list c.firsts.first c.firsts.invariant c.in_ok-push_all.ensures

pub returns : goal.returns
returns c = levels_end c.args.cuboids.now c.firsts.all c.args.level c.firsts.first c.firsts.invariant (omega arith)
