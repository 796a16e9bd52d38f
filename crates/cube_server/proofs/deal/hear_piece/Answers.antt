use Rattle.std.proofs.Common.{◌≡◌, ◌∙◌, ◌++◌, sym, arith, []}
use Rattle.cube_server.proofs.Sending.{sends_none, sends_then}
use Rattle.cube_server.proofs.Spoken.{talks_none, talks_then}
use Rattle.cube_server.proofs.Enduring.{endures_none, endures_then}
use Rattle.cube_server.proofs.Pieces.{progress_start, step_on, step_off, piece_spent, piece_heard, none_left}
use Rattle.cube_server.proofs.deal.hear_piece.Goals as goal

pub items-init : goal.items-init
items-init g c = record {
  fits = c.requires.fits;
  calls = [];
  endures = endures_none _;
  sending = sends_none _;
  talks = λ told. talks_none c.args.c _;
  progress = λ told stream k. progress_start (g.D.Desk.manner c.args.desk.now) c.args.c stream c.args.piece.now _ _ _ k;
}

pub returns-then-is_empty-clause-does : goal.returns-then-is_empty-clause-does
returns-then-is_empty-clause-does g c =
    let was = c.items.invariant in (
      was.calls,
      was.endures,
      (λ told stream k.
          let none : c.items.rest.now ≡ [] = none_left c.items.rest.now (sym c.is_empty.ensures ∙ c.if-is_empty.true) in
          let h = piece_heard (g.D.Desk.manner c.args.desk.now) c.args.c stream c.args.piece.now _ _ _ _ _ _ (rw none at (was.progress told stream k)) (was.talks told) in
          record { deals = h.0; goes = λ some. h.1 }),
    )

pub returns-then-left-eq0-clause-does : goal.returns-then-left-eq0-clause-does
returns-then-left-eq0-clause-does g c =
    let was = c.items.invariant in
    let none : g.D.Desk.capacity c.items.desk ≡ 0 = sym c.left.ensures ∙ c.if-left-eq0.true in (
      was.calls,
      was.endures,
      (λ told stream k. record {
        deals = piece_spent (g.D.Desk.manner c.args.desk.now) c.args.c stream c.args.piece.now c.items.rest.now _ _ _ _ _ _ (was.progress told stream k) (was.talks told) none;
        goes = λ some. absurd (omega (arith, some, none));
      }),
    )

pub items-preserved : goal.items-preserved
items-preserved g c =
    let was = c.items.invariant in
    let (calls, endures, does) = c.in-On.ensures.does in
    record {
      fits = c.in-On.ensures.fits;
      calls = was.calls ++ calls;
      endures = endures_then _ _ _ _ _ was.endures endures;
      sending = sends_then _ _ _ was.sending c.in-On.ensures.sending;
      talks = λ told. talks_then c.args.c _ _ _ _ (was.talks told) (does (rw (← was.sending.plays.told) at told)).talks;
      progress = λ told stream k.
          let deals = does (rw (← was.sending.plays.told) at told) in
          rw c.skip-rest.ensures (step_on (g.D.Desk.manner c.args.desk.now) c.args.c stream c.args.piece.now c.items.rest.now c.feed-fed.result.used c.items.ear c.in-On.next c.feed-fed.result.heard c.feed-fed.result.conn _ _ _ _ _ _ _ _
          (was.progress told stream k) was.endures.manner was.endures.manner c.feed-fed.ensures.used.0 c.feed-fed.ensures.used.1 c.feed-fed.ensures.hears deals c.in-On.ensures.leaves);
    }

pub returns-in-Off-clause-does : goal.returns-in-Off-clause-does
returns-in-Off-clause-does g c =
    let was = c.items.invariant in
    let (calls, endures, does) = c.in-Off.ensures.does in (
      was.calls ++ calls,
      endures_then _ _ _ _ _ was.endures endures,
      (λ told stream k.
          let deals = does (rw (← was.sending.plays.told) at told) in
          record {
            deals = step_off (g.D.Desk.manner c.args.desk.now) c.args.c stream c.args.piece.now c.items.rest.now c.feed-fed.result.used c.items.ear c.feed-fed.result.heard c.feed-fed.result.conn _ _ _ _ _ _ _ _
                (was.progress told stream k) was.endures.manner was.endures.manner c.feed-fed.ensures.used.0 c.feed-fed.ensures.used.1 c.feed-fed.ensures.hears deals (was.talks told);
            goes = λ some. tt;
          }),
    )

pub returns-in-Off-clause-sending : goal.returns-in-Off-clause-sending
returns-in-Off-clause-sending g c = sends_then _ _ _ c.items.invariant.sending c.in-Off.ensures.sending
