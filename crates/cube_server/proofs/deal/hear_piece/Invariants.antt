use Rattle.std.proofs.Common.{ℕ, List, length, IsTrue, true}
use Rattle.cube_server.specs.Ears.{Keeps, kept_bytes}
use Rattle.cube_server.specs.Crashes.{Endures}
use Rattle.cube_server.specs.Logs.{Call}
use Rattle.cube_server.specs.Seen.{moment, OnlySends}
use Rattle.cube_server.specs.Steps.{Talks}
use Rattle.cube_server.proofs.Pieces.{Progress}
use Rattle.cube_server.proofs.deal.hear_piece.Given as goal

abbrev pub invariant-items : goal.invariant-items
invariant-items g l = record {
  fits : g.D.Desk.fits l.desk l.store;
  calls : List Call;
  endures : Endures (moment g.D.Desk.manner g.D.Desk.rooms g.D.Desk.capacity g.D.Desk.outcomes g.D.Desk.exact g.D.Desk.within l.initial.desk (g.S.Store.state l.initial.store))
      (moment g.D.Desk.manner g.D.Desk.rooms g.D.Desk.capacity g.D.Desk.outcomes g.D.Desk.exact g.D.Desk.within l.desk (g.S.Store.state l.store)) calls;
  sending : OnlySends (g.W.Wire.state l.initial.wire) (g.W.Wire.state l.wire);
  talks : IsTrue (g.W.Wire.state l.initial.wire).told → Talks l.c (g.W.Wire.state l.initial.wire).log (g.W.Wire.state l.wire).log true;
  progress : IsTrue (g.W.Wire.state l.initial.wire).told → (stream : List ℕ) → Keeps stream (kept_bytes l.initial.ear)
      → Progress (g.D.Desk.manner l.initial.desk) l.c stream l.piece l.rest (kept_bytes l.ear)
      (moment g.D.Desk.manner g.D.Desk.rooms g.D.Desk.capacity g.D.Desk.outcomes g.D.Desk.exact g.D.Desk.within l.initial.desk (g.S.Store.state l.initial.store)).desk (moment g.D.Desk.manner g.D.Desk.rooms g.D.Desk.capacity g.D.Desk.outcomes g.D.Desk.exact g.D.Desk.within l.desk (g.S.Store.state l.store)).desk (g.W.Wire.state l.initial.wire).log (g.W.Wire.state l.wire).log calls;
}

abbrev pub decreases-items : goal.decreases-items
decreases-items g l = length l.rest
