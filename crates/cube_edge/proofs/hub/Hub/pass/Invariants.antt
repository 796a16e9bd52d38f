use Rattle.std.proofs.Common.{◌≡◌, length}
use Rattle.std.specs.Prelude.{IsTrue}
use Rattle.cube_edge.specs.Ends.{LetsGo}
use Rattle.cube_edge.specs.Sockets.{SameTime}
use Rattle.cube_edge.proofs.Ending.{Unseen}
use Rattle.cube_edge.specs.Flows.{Keeps}
use Rattle.cube_edge.proofs.hub.Hub.pass.Given as goal

abbrev pub invariant-links : goal.invariant-links
invariant-links g l = record {
  size : length l.buf ≡ length l.initial.buf;
  faults : (g.S.Sockets.state l.self.sockets).faults ≡ (g.S.Sockets.state l.initial.self.sockets).faults;
  told : (g.S.Sockets.state l.self.sockets).told ≡ (g.S.Sockets.state l.initial.self.sockets).told;
  keeps : Keeps (g.S.Sockets.state l.initial.self.sockets) l.initial.self.links.items (g.S.Sockets.state l.self.sockets) l.self.links.items;
  idle : l.self.idle ≡ l.initial.self.idle;
  time : SameTime (g.S.Sockets.state l.initial.self.sockets) (g.S.Sockets.state l.self.sockets);
  unseen : IsTrue (g.S.Sockets.state l.initial.self.sockets).told → Unseen l.place (g.S.Sockets.state l.initial.self.sockets) l.initial.self.links.items (g.S.Sockets.state l.self.sockets) l.self.links.items;
  lets : IsTrue (g.S.Sockets.state l.initial.self.sockets).told → LetsGo l.initial.self.idle (g.S.Sockets.state l.initial.self.sockets) l.initial.self.links.items (g.S.Sockets.state l.self.sockets) l.self.links.items;
}
