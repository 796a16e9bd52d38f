use Rattle.std.proofs.Common.{refl}
use Rattle.cube_edge.proofs.Tying.{still_tells, still_heeds, quiet_step, told_step}
use Rattle.cube_io.specs.Wires.{arrival_of}
use Rattle.cube_io.specs.Wires.LogEntry.{Heard}
use Rattle.cube_edge.proofs.wire.SocketWire.pass.Goals as goal

pub invariant_of-self-2 : goal.invariant_of-self-2
invariant_of-self-2 g c = record {
  tells = still_tells (g.N.Watch.state c.args.self.now.watch) (g.N.Watch.state c.hear.new.self) (g.S.Sockets.state c.args.self.now.hub.sockets) (g.S.Sockets.state c.pass.new.self.sockets) c.hear.ensures.told c.pass.ensures.told c.args.self.now.tells;
  heeds = still_heeds (g.N.Watch.state c.args.self.now.watch) (g.N.Watch.state c.hear.new.self) c.args.self.now.hub.idle c.pass.new.self.idle c.hear.ensures.told c.hear.ensures.heard c.pass.ensures.idle c.args.self.now.heeds;
  tied = told_step (Heard (arrival_of c.in-Some.event c.pass.new.buf)) (g.N.Watch.state c.args.self.now.watch) (g.N.Watch.state c.hear.new.self) (g.S.Sockets.state c.args.self.now.hub.sockets) (g.S.Sockets.state c.pass.new.self.sockets) c.args.self.now.hub.links.items c.pass.new.self.links.items c.hear.ensures c.in-Some.ensures.takes c.args.self.now.tells c.args.self.now.tied;
}

pub invariant_of-self : goal.invariant_of-self
invariant_of-self g c = record {
  tells = still_tells (g.N.Watch.state c.args.self.now.watch) (g.N.Watch.state c.args.self.now.watch) (g.S.Sockets.state c.args.self.now.hub.sockets) (g.S.Sockets.state c.pass.new.self.sockets) refl c.pass.ensures.told c.args.self.now.tells;
  heeds = still_heeds (g.N.Watch.state c.args.self.now.watch) (g.N.Watch.state c.args.self.now.watch) c.args.self.now.hub.idle c.pass.new.self.idle refl (λ on. refl) c.pass.ensures.idle c.args.self.now.heeds;
  tied = quiet_step (g.N.Watch.state c.args.self.now.watch) (g.N.Watch.state c.args.self.now.watch) (g.S.Sockets.state c.args.self.now.hub.sockets) (g.S.Sockets.state c.pass.new.self.sockets) c.args.self.now.hub.links.items c.pass.new.self.links.items refl (λ on. refl) c.in_default.ensures.takes c.args.self.now.tells c.args.self.now.tied;
}
