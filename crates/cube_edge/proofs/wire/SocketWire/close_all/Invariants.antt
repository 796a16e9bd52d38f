use Rattle.std.proofs.Common.{◌≡◌}
use Rattle.cube_edge.specs.Sockets.{SameTime}
use Rattle.cube_edge.proofs.Ending.{NoneBelow}
use Rattle.cube_edge.proofs.wire.SocketWire.close_all.Given as goal

abbrev pub invariant-loop-c : goal.invariant-loop-c
invariant-loop-c g l = record {
  closed : NoneBelow l.c l.self.hub.links.items;
  told : (g.S.Sockets.state l.self.hub.sockets).told ≡ (g.S.Sockets.state l.initial.self.hub.sockets).told;
  faults : (g.S.Sockets.state l.self.hub.sockets).faults ≡ (g.S.Sockets.state l.initial.self.hub.sockets).faults;
  time : SameTime (g.S.Sockets.state l.initial.self.hub.sockets) (g.S.Sockets.state l.self.hub.sockets);
}
