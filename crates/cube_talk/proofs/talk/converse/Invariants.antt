use Rattle.std.proofs.Common.{◌≡◌, ◌≤◌, ◌-◌, [], false}
use Rattle.cube_talk.specs.Putting.{InSight}
use Rattle.cube_talk.proofs.Talks.{Stands}
use Rattle.cube_talk.proofs.talk.converse.Given as goal

abbrev pub invariant-reads : goal.invariant-reads
invariant-reads g l = record {
  talks : Stands g.R.Responder.says l.initial.responder l.responder l.initial.store l.store (g.I.Source.state l.initial.input).left (g.I.Source.state l.input).left (g.O.Sink.state l.initial.out).written (g.O.Sink.state l.out).written l.carry l.bytes;
  few_bytes : l.bytes ≤ 1099511627776;
  stands : g.R.Responder.stands l.responder l.store;
  going : g.R.Responder.done l.responder ≡ false;
  empty : l.replies ≡ [];
  input_steady : (g.I.Source.state l.input).faults ≡ (g.I.Source.state l.initial.input).faults;
  output_steady : (g.O.Sink.state l.out).faults ≡ (g.O.Sink.state l.initial.out).faults;
  sight : InSight (g.S.Store.state l.initial.store) (g.S.Store.state l.store) (g.O.Sink.state l.initial.out).loose (g.O.Sink.state l.out).loose;
}

abbrev pub decreases-reads : goal.decreases-reads
decreases-reads g l = 1099511627776 - l.bytes
