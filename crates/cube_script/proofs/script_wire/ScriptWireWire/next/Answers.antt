use Rattle.std.proofs.Common.{arith}
use Rattle.cube_script.specs.Plays.{played}
use Rattle.cube_script.proofs.Ready.{next_owes, ready_next, next_some, next_none}
use Rattle.cube_script.proofs.script_wire.ScriptWireWire.next.Goals as goal

pub play_event-event-requires-clause-playable : goal.play_event-event-requires-clause-playable
play_event-event-requires-clause-playable g c = (next_owes _ _ (played c.in-Some.play.now) c.self.invariant.0 (rw c.deref.ensures.value at c.in-Some.ensures.some.1)).0

pub play_event-event-requires-clause-entry : goal.play_event-event-requires-clause-entry
play_event-event-requires-clause-entry g c = (next_owes _ _ (played c.in-Some.play.now) c.self.invariant.0 (rw c.deref.ensures.value at c.in-Some.ensures.some.1)).1

pub play_event-event-requires-clause-bytes : goal.play_event-event-requires-clause-bytes
play_event-event-requires-clause-bytes g c = (next_owes _ _ (played c.in-Some.play.now) c.self.invariant.0 (rw c.deref.ensures.value at c.in-Some.ensures.some.1)).2

pub overflow_add-self : goal.overflow_add-self
overflow_add-self g c = omega (arith, c.entries_owed.ensures, (next_owes _ _ (played c.in-Some.play.now) c.self.invariant.0 (rw c.deref.ensures.value at c.in-Some.ensures.some.1)).3)

pub invariant_of-self : goal.invariant_of-self
invariant_of-self g c =
    let e = c.play_event-event.ensures in
    rw c.entries_owed.ensures (ready_next _ _ (played c.in-Some.play.now) c.play_event-event.new.scroll c.self.invariant.0 c.in-Some.ensures.some.0 (rw c.deref.ensures.value at c.in-Some.ensures.some.1) e.log e.entries e.bytes, c.self.invariant.1)

pub returns-in-Some-clause-plays : goal.returns-in-Some-clause-plays
returns-in-Some-clause-plays g c =
    let comes = next_some _ _ (played c.in-Some.play.now) c.self.invariant.0 c.in-Some.ensures.some.0 (rw c.deref.ensures.value at c.in-Some.ensures.some.1) in
    rw (c.play_event-event.ensures.event, ← c.self.view_is) comes

pub returns-in-None-clause-plays : goal.returns-in-None-clause-plays
returns-in-None-clause-plays g c =
    let none = next_none _ _ c.self.invariant.0 (rw c.deref.ensures.value at c.in-None.ensures.none) in
    rw (← c.self.view_is) none
