use Rattle.std.proofs.Common.{◌≡◌, ◌∙◌, ◌+◌, ◌-◌, ◌<◌, ◌++◌, [], sym, refl, inl, arith, rules, ap, ℕ}
use Rattle.cube_io.specs.Wires.{events_in}
use Rattle.cube_io.proofs.Told.{plays_then}
use Rattle.cube_server.proofs.Enduring.{endures_none, endures_then}
use Rattle.cube_server.proofs.Sending.{sends_none, sends_then}
use Rattle.cube_server.proofs.Standing.{stands_start, onward, stands_done, stands_end, ends_with}
use Rattle.cube_server.proofs.serving.serve_lines.Goals as goal

pub events-init : goal.events-init
events-init g c = record {
  few = search rules;
  more = c.requires.capacity;
  lines = c.requires.lines;
  fits = c.requires.fits;
  calls = [];
  endures = endures_none _;
  sending = sends_none _;
  heard = λ told. rw (c.requires.log told) refl;
  stands = λ told. let n : c.args.events - 0 ≡ c.args.events = omega arith in
      rw n (stands_start _ c.args.events _ c.args.lines.now.lines.items (c.requires.log told) c.requires.none);
}

pub take_event-requires-clause-allowed : goal.take_event-requires-clause-allowed
take_event-requires-clause-allowed g c = λ told.
    let was = c.events.invariant in
    let first = rw was.sending.plays.told at told in
    c.requires.permits first c.events.desk c.events.store _ was.calls (stands_done _ _ c.args.events (c.args.events - c.events.taken) _ _ _ _ (was.stands first) refl)
    (was.more, λ told. omega (arith, was.heard first, c.events-test.true)) (was.stands first).unended was.endures

pub returns-in-Ended-clause-serves : goal.returns-in-Ended-clause-serves
returns-in-Ended-clause-serves g c =
    let was = c.events.invariant in
    let (desk, store, log) = c.in-Ended.ensures.ended refl in (
      was.calls,
      rw (desk, store) was.endures,
      (λ told.
          let some : 0 < c.args.events - c.events.taken = omega (arith, c.events-test.true) in
          rw desk (stands_end _ _ c.args.events (c.args.events - c.events.taken) _ _ _ _ (was.stands told) some was.more (log (rw (← was.sending.plays.told) at told)))),
    )

pub returns-in-Ended-clause-ended : goal.returns-in-Ended-clause-ended
returns-in-Ended-clause-ended g c = λ told.
    let was = c.events.invariant in
    let (desk, store, log) = c.in-Ended.ensures.ended refl in
    (events_in (g.W.Wire.state c.events.wire).log, ends_with (g.W.Wire.state c.events.wire).log (g.W.Wire.state c.take_event.new.wire).log (log (rw (← was.sending.plays.told) at told)), omega (arith, was.heard told, c.events-test.true))

pub returns-in-Failed-clause-serves : goal.returns-in-Failed-clause-serves
returns-in-Failed-clause-serves g c =
    let was = c.events.invariant in
    let (desk, store, log, rose) = c.in-Failed.ensures.failed refl in (
      was.calls,
      rw (desk, store) was.endures,
      (λ told. rw desk (stands_done _ _ c.args.events (c.args.events - c.events.taken) _ _ _ _ (was.stands told) (log (rw (← was.sending.plays.told) at told)))),
    )

pub returns-then-left-eq0-clause-serves : goal.returns-then-left-eq0-clause-serves
returns-then-left-eq0-clause-serves g c =
    let was = c.events.invariant in
    let (calls, endures, does) = c.in-More.ensures.does in (
      was.calls ++ calls,
      endures_then _ _ _ _ _ was.endures endures,
      (λ told.
          let takes = does (rw (← was.sending.plays.told) at told) refl in
          let on = onward _ _ _ c.args.events c.events.taken _ _ _ _ _ _ (was.stands told) endures.manner c.events-test.true was.more takes in
          stands_done _ _ c.args.events (c.args.events - (c.events.taken + 1)) _ _ _ _ on.stands refl),
    )

pub returns-then-left-eq0-clause-unended : goal.returns-then-left-eq0-clause-unended
returns-then-left-eq0-clause-unended g c = λ told.
    let was = c.events.invariant in
    let takes = c.in-More.ensures.does.2 (rw (← was.sending.plays.told) at told) refl in
    (onward _ _ _ c.args.events c.events.taken _ _ _ _ _ _ (was.stands told) c.in-More.ensures.does.1.manner c.events-test.true was.more takes).stands.unended

pub returns-then-left-eq0-clause-spent : goal.returns-then-left-eq0-clause-spent
returns-then-left-eq0-clause-spent g c =
    let was = c.events.invariant in
    let none : g.D.Desk.capacity c.take_event.new.desk ≡ 0 = sym c.left.ensures ∙ c.if-left-eq0.true in (
      omega (arith, c.in-More.ensures.does.1.counted, was.endures.counted, none, c.left-capacity.ensures),
      (λ told.
          let takes = c.in-More.ensures.does.2 (rw (← was.sending.plays.told) at told) refl in
          (onward _ _ _ c.args.events c.events.taken _ _ _ _ _ _ (was.stands told) c.in-More.ensures.does.1.manner c.events-test.true was.more takes).longer
          ∙ ap (λ (n : ℕ). n + 1) (was.heard told)),
      omega (arith, c.events-test.true),
      inl none,
    )

pub events-preserved : goal.events-preserved
events-preserved g c =
    let was = c.events.invariant in
    let more = c.in-More.ensures in
    let (calls, endures, does) = more.does in
    record {
      few = omega (arith, c.events-test.true);
      more = omega (arith, c.if-left-eq0.false, c.left.ensures);
      lines = more.lines;
      fits = more.fits;
      calls = was.calls ++ calls;
      endures = endures_then _ _ _ _ _ was.endures endures;
      sending = sends_then _ _ _ was.sending (record { plays = more.plays; faults = more.steady (λ e. cc); sends = more.sends });
      heard = λ told.
          let takes = does (rw (← was.sending.plays.told) at told) refl in
          (onward _ _ _ c.args.events c.events.taken _ _ _ _ _ _ (was.stands told) endures.manner c.events-test.true was.more takes).longer
          ∙ ap (λ (n : ℕ). n + 1) (was.heard told);
      stands = λ told.
          let takes = does (rw (← was.sending.plays.told) at told) refl in
          (onward _ _ _ c.args.events c.events.taken _ _ _ _ _ _ (was.stands told) endures.manner c.events-test.true was.more takes).stands;
    }

pub returns-clause-serves : goal.returns-clause-serves
returns-clause-serves g c =
    let was = c.events.invariant in
    (was.calls, was.endures, (λ told. stands_done _ _ c.args.events (c.args.events - c.events.taken) _ _ _ _ (was.stands told) refl))

pub returns-in-Ended-clause-plays : goal.returns-in-Ended-clause-plays
returns-in-Ended-clause-plays g c = plays_then _ _ _ c.events.invariant.sending.plays c.in-Ended.ensures.plays

pub returns-in-Failed-clause-plays : goal.returns-in-Failed-clause-plays
returns-in-Failed-clause-plays g c = plays_then _ _ _ c.events.invariant.sending.plays c.in-Failed.ensures.plays

pub returns-then-left-eq0-clause-plays : goal.returns-then-left-eq0-clause-plays
returns-then-left-eq0-clause-plays g c = plays_then _ _ _ c.events.invariant.sending.plays c.in-More.ensures.plays
