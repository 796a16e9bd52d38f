use Rattle.std.proofs.Common.{refl}
use Rattle.cube_edge.proofs.Tying.{still_tells, still_heeds, quiet_step, told_step}
use Rattle.cube_io.specs.Wires.{arrival_of}
use Rattle.cube_io.specs.Wires.LogEntry.{Heard}
use Rattle.cube_edge.proofs.wire.SocketWire.find.Goals as goal

pub invariant_of-self : goal.invariant_of-self
invariant_of-self g c = record {
  tells = still_tells (g.N.Watch.state c.args.self.now.watch) (g.N.Watch.state c.hear.new.self) (g.S.Sockets.state c.args.self.now.hub.sockets) (g.S.Sockets.state c.find.new.self.sockets) c.hear.ensures.told c.find.ensures.told c.args.self.now.tells;
  heeds = still_heeds (g.N.Watch.state c.args.self.now.watch) (g.N.Watch.state c.hear.new.self) c.args.self.now.hub.idle c.find.new.self.idle c.hear.ensures.told c.hear.ensures.heard c.find.ensures.idle c.args.self.now.heeds;
  tied = told_step (Heard (arrival_of c.in-Ok-Some.event c.find.new.buf)) (g.N.Watch.state c.args.self.now.watch) (g.N.Watch.state c.hear.new.self) (g.S.Sockets.state c.args.self.now.hub.sockets) (g.S.Sockets.state c.find.new.self.sockets) c.args.self.now.hub.links.items c.find.new.self.links.items c.hear.ensures (rw c.in-Ok-Some.field-0-is at c.in-Ok-Some.ensures.takes) c.args.self.now.tells c.args.self.now.tied;
}

pub invariant_of-self-in-Ok-None : goal.invariant_of-self-in-Ok-None
invariant_of-self-in-Ok-None g c = record {
  tells = still_tells (g.N.Watch.state c.args.self.now.watch) (g.N.Watch.state c.args.self.now.watch) (g.S.Sockets.state c.args.self.now.hub.sockets) (g.S.Sockets.state c.find.new.self.sockets) refl c.find.ensures.told c.args.self.now.tells;
  heeds = still_heeds (g.N.Watch.state c.args.self.now.watch) (g.N.Watch.state c.args.self.now.watch) c.args.self.now.hub.idle c.find.new.self.idle refl (λ on. refl) c.find.ensures.idle c.args.self.now.heeds;
  tied = quiet_step (g.N.Watch.state c.args.self.now.watch) (g.N.Watch.state c.args.self.now.watch) (g.S.Sockets.state c.args.self.now.hub.sockets) (g.S.Sockets.state c.find.new.self.sockets) c.args.self.now.hub.links.items c.find.new.self.links.items refl (λ on. refl) (rw c.in-Ok-None.field-0-is at c.in-Ok-None.ensures.takes) c.args.self.now.tells c.args.self.now.tied;
}

pub invariant_of-self-in-Err : goal.invariant_of-self-in-Err
invariant_of-self-in-Err g c = record {
  tells = still_tells (g.N.Watch.state c.args.self.now.watch) (g.N.Watch.state c.args.self.now.watch) (g.S.Sockets.state c.args.self.now.hub.sockets) (g.S.Sockets.state c.find.new.self.sockets) refl c.find.ensures.told c.args.self.now.tells;
  heeds = still_heeds (g.N.Watch.state c.args.self.now.watch) (g.N.Watch.state c.args.self.now.watch) c.args.self.now.hub.idle c.find.new.self.idle refl (λ on. refl) c.find.ensures.idle c.args.self.now.heeds;
  tied = quiet_step (g.N.Watch.state c.args.self.now.watch) (g.N.Watch.state c.args.self.now.watch) (g.S.Sockets.state c.args.self.now.hub.sockets) (g.S.Sockets.state c.find.new.self.sockets) c.args.self.now.hub.links.items c.find.new.self.links.items refl (λ on. refl) c.in-Err.ensures.takes c.args.self.now.tells c.args.self.now.tied;
}
