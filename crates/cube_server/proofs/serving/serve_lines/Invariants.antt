use Rattle.std.proofs.Common.{◌≡◌, ◌-◌, ◌≤◌, List, length, IsTrue}
use Rattle.cube_io.specs.Wires.{events_in}
use Rattle.cube_server.specs.Ears.{HasCapacity}
use Rattle.cube_server.specs.Crashes.{Endures}
use Rattle.cube_server.specs.Logs.{Call}
use Rattle.cube_server.specs.Seen.{moment, OnlySends}
use Rattle.cube_server.proofs.Standing.{Stands}
use Rattle.cube_server.proofs.serving.serve_lines.Given as goal

abbrev pub invariant-events : goal.invariant-events
invariant-events g l = record {
  few : l.taken ≤ l.events;
  more : 1 ≤ g.D.Desk.capacity l.desk;
  lines : HasCapacity l.lines 0;
  fits : g.D.Desk.fits l.desk l.store;
  calls : List Call;
  endures : Endures (moment g.D.Desk.manner g.D.Desk.rooms g.D.Desk.capacity g.D.Desk.outcomes g.D.Desk.exact g.D.Desk.within l.initial.desk (g.S.Store.state l.initial.store))
      (moment g.D.Desk.manner g.D.Desk.rooms g.D.Desk.capacity g.D.Desk.outcomes g.D.Desk.exact g.D.Desk.within l.desk (g.S.Store.state l.store)) calls;
  sending : OnlySends (g.W.Wire.state l.initial.wire) (g.W.Wire.state l.wire);
  heard : IsTrue (g.W.Wire.state l.initial.wire).told → length (events_in (g.W.Wire.state l.wire).log) ≡ l.taken;
  stands : IsTrue (g.W.Wire.state l.initial.wire).told → Stands (moment g.D.Desk.manner g.D.Desk.rooms g.D.Desk.capacity g.D.Desk.outcomes g.D.Desk.exact g.D.Desk.within l.initial.desk (g.S.Store.state l.initial.store)).desk (moment g.D.Desk.manner g.D.Desk.rooms g.D.Desk.capacity g.D.Desk.outcomes g.D.Desk.exact g.D.Desk.within l.desk (g.S.Store.state l.store)).desk
      l.events (l.events - l.taken) (g.W.Wire.state l.wire).log l.lines.lines.items calls;
}

abbrev pub decreases-events : goal.decreases-events
decreases-events g l = l.events - l.taken
