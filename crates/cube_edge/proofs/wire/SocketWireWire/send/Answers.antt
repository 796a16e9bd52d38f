use Rattle.std.proofs.Common.{refl, ap, length, []}
use Rattle.cube_edge.proofs.Tying.{still_tells, still_heeds, told_step, no_send_takes}
use Rattle.cube_io.specs.Wires.LogEntry.{Sent, Torn}
use Rattle.cube_edge.proofs.wire.SocketWireWire.send.Goals as goal

pub invariant_of-self : goal.invariant_of-self
invariant_of-self g c = record {
  tells = still_tells (g.N.Watch.state c.args.self.now.watch) (g.N.Watch.state c.torn.new.self) (g.S.Sockets.state c.args.self.now.hub.sockets) (g.S.Sockets.state c.args.self.now.hub.sockets) c.torn.ensures.told refl c.args.self.now.tells;
  heeds = still_heeds (g.N.Watch.state c.args.self.now.watch) (g.N.Watch.state c.torn.new.self) c.args.self.now.hub.idle c.args.self.now.hub.idle c.torn.ensures.told c.torn.ensures.heard refl c.args.self.now.heeds;
  tied = told_step (Torn c.args.c [] (length c.args.piece.now)) (g.N.Watch.state c.args.self.now.watch) (g.N.Watch.state c.torn.new.self) (g.S.Sockets.state c.args.self.now.hub.sockets) (g.S.Sockets.state c.args.self.now.hub.sockets) c.args.self.now.hub.links.items c.args.self.now.hub.links.items c.torn.ensures (no_send_takes c.args.c (length c.args.piece.now) (g.S.Sockets.state c.args.self.now.hub.sockets) (g.S.Sockets.state c.args.self.now.hub.sockets) c.args.self.now.hub.links.items c.args.self.now.hub.links.items (λ on log tied. tied)) c.args.self.now.tells c.args.self.now.tied;
}

pub invariant_of-self-in-Ok : goal.invariant_of-self-in-Ok
invariant_of-self-in-Ok g c = record {
  tells = still_tells (g.N.Watch.state c.args.self.now.watch) (g.N.Watch.state c.sent.new.self) (g.S.Sockets.state c.args.self.now.hub.sockets) (g.S.Sockets.state c.send.new.self.sockets) c.sent.ensures.told (ap (λ s. (g.S.Sockets.state s).told) c.send.ensures.sockets) c.args.self.now.tells;
  heeds = still_heeds (g.N.Watch.state c.args.self.now.watch) (g.N.Watch.state c.sent.new.self) c.args.self.now.hub.idle c.send.new.self.idle c.sent.ensures.told c.sent.ensures.heard c.send.ensures.idle c.args.self.now.heeds;
  tied = told_step (Sent c.args.c c.args.piece.now) (g.N.Watch.state c.args.self.now.watch) (g.N.Watch.state c.sent.new.self) (g.S.Sockets.state c.args.self.now.hub.sockets) (g.S.Sockets.state c.send.new.self.sockets) c.args.self.now.hub.links.items c.send.new.self.links.items c.sent.ensures c.in-Ok.ensures.takes c.args.self.now.tells c.args.self.now.tied;
}

pub invariant_of-self-in-Err : goal.invariant_of-self-in-Err
invariant_of-self-in-Err g c = record {
  tells = still_tells (g.N.Watch.state c.args.self.now.watch) (g.N.Watch.state c.torn-in-Err.new.self) (g.S.Sockets.state c.args.self.now.hub.sockets) (g.S.Sockets.state c.send.new.self.sockets) c.torn-in-Err.ensures.told (ap (λ s. (g.S.Sockets.state s).told) c.send.ensures.sockets) c.args.self.now.tells;
  heeds = still_heeds (g.N.Watch.state c.args.self.now.watch) (g.N.Watch.state c.torn-in-Err.new.self) c.args.self.now.hub.idle c.send.new.self.idle c.torn-in-Err.ensures.told c.torn-in-Err.ensures.heard c.send.ensures.idle c.args.self.now.heeds;
  tied = told_step (Torn c.args.c [] (length c.args.piece.now)) (g.N.Watch.state c.args.self.now.watch) (g.N.Watch.state c.torn-in-Err.new.self) (g.S.Sockets.state c.args.self.now.hub.sockets) (g.S.Sockets.state c.send.new.self.sockets) c.args.self.now.hub.links.items c.send.new.self.links.items c.torn-in-Err.ensures c.in-Err.ensures.takes c.args.self.now.tells c.args.self.now.tied;
}

pub returns-in-Err-clause-log : goal.returns-in-Err-clause-log
returns-in-Err-clause-log g c = λ told. ([], c.args.piece.now, refl, c.torn-in-Err.ensures.log told)
