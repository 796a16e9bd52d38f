use Rattle.std.proofs.Common.{refl}
use Rattle.cube_edge.proofs.Tying.{still_tells, still_heeds, quiet_step}
use Rattle.cube_edge.proofs.wire.SocketWire.wait.Goals as goal

pub invariant_of-self : goal.invariant_of-self
invariant_of-self g c = record {
  tells = still_tells (g.N.Watch.state c.args.self.now.watch) (g.N.Watch.state c.args.self.now.watch) (g.S.Sockets.state c.args.self.now.hub.sockets) (g.S.Sockets.state c.wait.new.self.sockets) refl c.wait.ensures.told c.args.self.now.tells;
  heeds = still_heeds (g.N.Watch.state c.args.self.now.watch) (g.N.Watch.state c.args.self.now.watch) c.args.self.now.hub.idle c.wait.new.self.idle refl (λ on. refl) c.wait.ensures.idle c.args.self.now.heeds;
  tied = quiet_step (g.N.Watch.state c.args.self.now.watch) (g.N.Watch.state c.args.self.now.watch) (g.S.Sockets.state c.args.self.now.hub.sockets) (g.S.Sockets.state c.wait.new.self.sockets) c.args.self.now.hub.links.items c.wait.new.self.links.items refl (λ on. refl) c.wait.ensures.keeps c.args.self.now.tells c.args.self.now.tied;
}
