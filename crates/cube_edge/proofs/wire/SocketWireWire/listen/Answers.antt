use Rattle.std.proofs.Common.{refl}
use Rattle.cube_edge.proofs.Tying.{still_tells, still_heeds, now_heeds, quiet_step}
use Rattle.cube_edge.proofs.wire.SocketWireWire.listen.Goals as goal

pub invariant_of-self : goal.invariant_of-self
invariant_of-self g c = record {
  tells = still_tells (g.N.Watch.state c.args.self.now.watch) (g.N.Watch.state c.listen.new.self) (g.S.Sockets.state c.args.self.now.hub.sockets) (g.S.Sockets.state c.listen-in-Ok.new.self.sockets) c.listen.ensures.told c.listen-in-Ok.ensures.told c.args.self.now.tells;
  heeds = now_heeds (g.N.Watch.state c.args.self.now.watch) (g.N.Watch.state c.listen.new.self) c.args.address.now c.args.idle c.listen-in-Ok.new.self.idle c.listen.ensures.told c.in-Ok.ensures.heard c.listen-in-Ok.ensures.idle;
  tied = quiet_step (g.N.Watch.state c.args.self.now.watch) (g.N.Watch.state c.listen.new.self) (g.S.Sockets.state c.args.self.now.hub.sockets) (g.S.Sockets.state c.listen-in-Ok.new.self.sockets) c.args.self.now.hub.links.items c.listen-in-Ok.new.self.links.items c.listen.ensures.told c.listen.ensures.log c.listen-in-Ok.ensures.keeps c.args.self.now.tells c.args.self.now.tied;
}

pub invariant_of-self-in-Err : goal.invariant_of-self-in-Err
invariant_of-self-in-Err g c = record {
  tells = still_tells (g.N.Watch.state c.args.self.now.watch) (g.N.Watch.state c.listen.new.self) (g.S.Sockets.state c.args.self.now.hub.sockets) (g.S.Sockets.state c.args.self.now.hub.sockets) c.listen.ensures.told refl c.args.self.now.tells;
  heeds = still_heeds (g.N.Watch.state c.args.self.now.watch) (g.N.Watch.state c.listen.new.self) c.args.self.now.hub.idle c.args.self.now.hub.idle c.listen.ensures.told c.in-Err.ensures.heard refl c.args.self.now.heeds;
  tied = quiet_step (g.N.Watch.state c.args.self.now.watch) (g.N.Watch.state c.listen.new.self) (g.S.Sockets.state c.args.self.now.hub.sockets) (g.S.Sockets.state c.args.self.now.hub.sockets) c.args.self.now.hub.links.items c.args.self.now.hub.links.items c.listen.ensures.told c.listen.ensures.log (λ on log tied. tied) c.args.self.now.tells c.args.self.now.tied;
}
