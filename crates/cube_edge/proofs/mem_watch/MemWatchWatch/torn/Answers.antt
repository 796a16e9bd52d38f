use Rattle.std.proofs.Common.{refl, arith}
use Rattle.cube_io.proofs.Scrolled.{torn_pays}
use Rattle.cube_edge.proofs.mem_watch.MemWatchWatch.torn.Goals as goal

pub add-requires-clause-entry : goal.add-requires-clause-entry
add-requires-clause-entry c = omega (arith, torn_pays c.args.c c.args.said.now c.args.len c.args.self.now.scroll.log (c.requires.sound refl), c.args.self.now.owing)
