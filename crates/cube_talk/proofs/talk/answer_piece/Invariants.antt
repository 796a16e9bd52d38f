use Rattle.std.proofs.Common.{◌≡◌, false, List, ℕ, length}
use Rattle.cube_talk.specs.Talk.{IsKept}
use Rattle.cube_talk.proofs.Pieces.{Progress}
use Rattle.cube_talk.proofs.Puttings.{Behind}
use Rattle.cube_talk.specs.Putting.{InSight}
use Rattle.cube_talk.proofs.talk.answer_piece.Given as goal

abbrev pub invariant-lines : goal.invariant-lines
invariant-lines g l = record {
  stands : g.R.Responder.stands l.responder l.store;
  going : g.R.Responder.done l.responder ≡ false;
  steady : (g.O.Sink.state l.out).faults ≡ (g.O.Sink.state l.initial.out).faults;
  progress : (open_part : List ℕ) → IsKept l.initial.carry open_part
      → Progress g.R.Responder.says l.initial.responder l.responder l.initial.store l.store open_part l.piece l.rest l.carry l.initial.replies l.replies
      (g.O.Sink.state l.initial.out).written (g.O.Sink.state l.out).written;
  behind : Behind g.R.Responder.says g.R.Responder.kept l.initial.responder l.initial.store (g.O.Sink.state l.initial.out).written l.responder l.store (g.O.Sink.state l.out).written l.replies;
  sight : InSight (g.S.Store.state l.initial.store) (g.S.Store.state l.store) (g.O.Sink.state l.initial.out).loose (g.O.Sink.state l.out).loose;
}

abbrev pub decreases-lines : goal.decreases-lines
decreases-lines g l = length l.rest
