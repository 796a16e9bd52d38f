use Rattle.cube_io.proofs.Told.{Written}
use Rattle.cube_edge.proofs.sink.write_whole.Given as goal

abbrev pub invariant-writes : goal.invariant-writes
invariant-writes g l = Written (g.W.Write.contents l.initial.out) (g.W.Write.contents l.out) l.piece l.rest
