use Rattle.cube_io.proofs.Told.{written_none, written_more}
use Rattle.cube_edge.proofs.sink.write_whole.Goals as goal

pub writes-init : goal.writes-init
writes-init g c = written_none (g.W.Write.contents c.args.out.now) c.args.piece.now

pub writes-preserved : goal.writes-preserved
writes-preserved g c =
    rw c.behind-rest.ensures (written_more (g.W.Write.contents c.args.out.now) (g.W.Write.contents c.writes.out) (g.W.Write.contents c.write_some.new.out) c.args.piece.now c.writes.rest.now c.in-Ok.count c.writes.invariant c.in-Ok.ensures.bytes)
