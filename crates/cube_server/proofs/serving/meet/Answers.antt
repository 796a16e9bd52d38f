use Rattle.std.proofs.Common.{[]}
use Rattle.cube_server.specs.Seen.{moment}
use Rattle.cube_server.proofs.Enduring.{endures_none}
use Rattle.cube_server.proofs.serving.meet.Goals as goal

pub returns-in-Opened-clause-does : goal.returns-in-Opened-clause-does
returns-in-Opened-clause-does g c = (
  [],
  endures_none _,
  (λ told conns k. let live = rw c.in-Opened.is at (c.requires.live told) in
      rw c.in-Opened.is (c.open_conn.ensures.meets told live.0 (moment g.D.Desk.manner g.D.Desk.rooms g.D.Desk.capacity g.D.Desk.outcomes g.D.Desk.exact g.D.Desk.within c.args.desk.now (g.S.Store.state c.args.store.now)).desk conns k)),
)

pub returns-in-Closed-clause-does : goal.returns-in-Closed-clause-does
returns-in-Closed-clause-does g c = (
  [],
  endures_none _,
  (λ told conns k. let live = rw c.in-Closed.is at (c.requires.live told) in
      rw c.in-Closed.is (c.close_conn.ensures.meets (g.W.Wire.state c.args.wire.now).log live (moment g.D.Desk.manner g.D.Desk.rooms g.D.Desk.capacity g.D.Desk.outcomes g.D.Desk.exact g.D.Desk.within c.args.desk.now (g.S.Store.state c.args.store.now)).desk conns k)),
)

pub returns-in-Piece-clause-does : goal.returns-in-Piece-clause-does
returns-in-Piece-clause-does g c =
    let (calls, endures, meets) = c.hear.ensures.does in
    (calls, endures, (λ told conns k. rw c.in-Piece.is (meets told conns k)))
