use Rattle.std.proofs.Common.{refl, arith}
use Rattle.cube_io.proofs.Scrolled.{shut_pays}
use Rattle.cube_edge.proofs.mem_watch.MemWatchWatch.shut.Goals as goal

pub add-requires-clause-entry : goal.add-requires-clause-entry
add-requires-clause-entry c = omega (arith, shut_pays c.args.c c.args.self.now.scroll.log (c.requires refl), c.args.self.now.owing)
