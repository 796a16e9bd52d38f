use Rattle.std.proofs.Common.{◌≡◌, length}
use Rattle.cube_edge.proofs.wire.SocketWireWire.next.Given as goal

abbrev pub invariant-waits : goal.invariant-waits
invariant-waits g l = record {
  size : length l.buf ≡ length l.initial.buf;
  faults : (g.S.Sockets.state l.self.hub.sockets).faults ≡ (g.S.Sockets.state l.initial.self.hub.sockets).faults;
  sends : l.self.send_faults ≡ l.initial.self.send_faults;
  quiet : g.N.Watch.state l.self.watch ≡ g.N.Watch.state l.initial.self.watch;
}
