use Rattle.std.proofs.Common.{◌≡◌, ℕ, IsTrue, false, List, [], ◌∷◌, ◌++◌, refl, subst, sym, ◌∙◌}
use Rattle.cube_io.specs.Wires.{LogEntry, arrival_of}
use Rattle.cube_io.specs.Wires.LogEntry.{Heard}
use Rattle.cube_io.specs.declared.wire.Event.{Event}
use Rattle.cube_io.specs.declared.wire.Event.TheVariants as event
use Rattle.cube_server.specs.Ears.{is_last}
use Rattle.cube_server.specs.Logs.{Call, met}
use Rattle.cube_server.specs.Seen.{DeskState}
use Rattle.cube_server.specs.Steps.{Meets, Takes, is_end}
use Rattle.cube_server.specs.declared.lines.Line.{Line}
use Rattle.cube_server.proofs.Lookup.{event_open}
use Rattle.cube_server.proofs.Enduring.{endures_none}
use Rattle.cube_server.proofs.serving.take_event.Goals as goal

pub meet-requires-clause-live : goal.meet-requires-clause-live
meet-requires-clause-live g c = λ told.
    let was = rw c.in-Ok.ensures.plays.told at told in
    event_open c.in-Ok.event c.next.new.buf c.args.lines.now.lines.items (g.W.Wire.state c.args.wire.now).log (g.W.Wire.state c.next.new.self).log (c.requires.live was) (c.in-Ok.ensures.log was)

not_the_end : (e : Event) (buf : List ℕ) → is_last e ≡ false → is_end (arrival_of e buf) ≡ false
not_the_end (event.Opened c) buf h = refl
not_the_end (event.Piece c n) buf h = refl
not_the_end (event.Closed c) buf h = refl
not_the_end event.End buf h = h

taken : (e : Event) (buf : List ℕ) (lines : List Line) (conns : List (ℕ × List ℕ)) (old new : DeskState) (log mid after : List LogEntry) (calls : List Call) → is_last e ≡ false → mid ≡ log ++ Heard (arrival_of e buf) ∷ []
    → Meets (met old.manner (arrival_of e buf)) lines conns old new mid after calls → Takes lines conns old new log after calls
taken e buf lines conns old new log mid after calls more heard meets = record {
  event = arrival_of e buf;
  more = not_the_end e buf more;
  meets = subst (λ (l : List LogEntry). Meets (met old.manner (arrival_of e buf)) lines conns old new l after calls) heard meets;
}

pub returns-in-Err-clause-does : goal.returns-in-Err-clause-does
returns-in-Err-clause-does g c = ([], endures_none _, (λ told more. absurd (cc)))

pub returns-then-is_end-clause-does : goal.returns-then-is_end-clause-does
returns-then-is_end-clause-does g c = ([], endures_none _, (λ told more. absurd (cc)))

pub returns-clause-does : goal.returns-clause-does
returns-clause-does g c =
    let (calls, endures, meets) = c.meet.ensures.does in (
      calls,
      endures,
      (λ told more conns k.
          let on : IsTrue (g.W.Wire.state c.next.new.self).told = rw c.in-Ok.ensures.plays.told told in
          taken c.in-Ok.event c.next.new.buf _ conns _ _ _ _ _ calls (sym c.is_end.ensures ∙ c.if-is_end.false) (c.in-Ok.ensures.log told) (meets on conns k)),
    )
