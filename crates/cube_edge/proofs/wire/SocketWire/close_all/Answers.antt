use Rattle.std.proofs.Common.{refl}
use Rattle.std.specs.Prelude.{slice_get}
use Rattle.cube_edge.proofs.Tying.{open_by_log}
use Rattle.cube_edge.proofs.wire.SocketWire.close_all.Goals as goal

pub shut-requires : goal.shut-requires
shut-requires g c = λ told.
    let links = c.loop-c.self.hub.links.items in
    open_by_log c.loop-c.c (g.S.Sockets.state c.loop-c.self.hub.sockets) (g.N.Watch.state c.loop-c.self.watch).log links (slice_get links c.loop-c.c) refl (c.is_open.ensures.opens c.if-is_open.true) (c.loop-c.self.tied told)
