use Rattle.std.proofs.Common.{◌≡◌, length}
use Rattle.std.specs.Prelude.{IsTrue}
use Rattle.cube_edge.specs.Ends.{NoneOpen}
use Rattle.cube_io.specs.Causes.{RoseBy}
use Rattle.cube_edge.proofs.wire.SocketWire.drain.Given as goal

abbrev pub invariant-waits : goal.invariant-waits
invariant-waits g l = record {
  size : length l.buf ≡ 4096;
  told : (g.S.Sockets.state l.self.hub.sockets).told ≡ (g.S.Sockets.state l.initial.self.hub.sockets).told;
  faults : (g.S.Sockets.state l.self.hub.sockets).faults ≡ (g.S.Sockets.state l.initial.self.hub.sockets).faults;
  closes : IsTrue (g.S.Sockets.state l.initial.self.hub.sockets).told → NoneOpen l.self.hub.links.items;
  counted : IsTrue (g.S.Sockets.state l.initial.self.hub.sockets).told → RoseBy l._wait (g.S.Sockets.state l.initial.self.hub.sockets).waits (g.S.Sockets.state l.self.hub.sockets).waits;
}
