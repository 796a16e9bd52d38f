use Rattle.cube_edge.proofs.Tying.{still_tells, still_heeds, told_step}
use Rattle.cube_io.specs.Wires.LogEntry.{Shut}
use Rattle.cube_edge.proofs.wire.SocketWire.shut.Goals as goal

pub invariant_of-self : goal.invariant_of-self
invariant_of-self g c = record {
  tells = still_tells (g.N.Watch.state c.args.self.now.watch) (g.N.Watch.state c.shut.new.self) (g.S.Sockets.state c.args.self.now.hub.sockets) (g.S.Sockets.state c.close.new.self.sockets) c.shut.ensures.told c.close.ensures.told c.args.self.now.tells;
  heeds = still_heeds (g.N.Watch.state c.args.self.now.watch) (g.N.Watch.state c.shut.new.self) c.args.self.now.hub.idle c.close.new.self.idle c.shut.ensures.told c.shut.ensures.heard c.close.ensures.idle c.args.self.now.heeds;
  tied = told_step (Shut c.args.c) (g.N.Watch.state c.args.self.now.watch) (g.N.Watch.state c.shut.new.self) (g.S.Sockets.state c.args.self.now.hub.sockets) (g.S.Sockets.state c.close.new.self.sockets) c.args.self.now.hub.links.items c.close.new.self.links.items c.shut.ensures c.close.ensures.takes c.args.self.now.tells c.args.self.now.tied;
}
