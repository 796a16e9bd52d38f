use Rattle.std.proofs.Common.{[]}
use Rattle.cube_server.proofs.Lookup.{taken_is_open}
use Rattle.cube_server.proofs.Meetings.{dropped_meets, piece_on, piece_off}
use Rattle.cube_server.proofs.Enduring.{endures_none}
use Rattle.cube_server.proofs.serving.hear.Goals as goal

pub returns-in_default-clause-does : goal.returns-in_default-clause-does
returns-in_default-clause-does g c =
    let none = c.in_default.ensures.none in (
      [],
      endures_none _,
      (λ told conns k. dropped_meets (g.D.Desk.manner c.args.desk.now) c.args.c c.args.piece.now c.args.lines.now.lines.items c.take.new.self.lines.items conns _ _ none.1 none.2 k (c.requires.live told)),
    )

pub hear_piece-requires-clause-live : goal.hear_piece-requires-clause-live
hear_piece-requires-clause-live g c = λ told.
    let t = c.in-Some.ensures.some.1 in
    taken_is_open c.args.c c.in-Some.ear t.front t.after (g.W.Wire.state c.args.wire.now).log (rw t.was at (c.requires.live told))

pub returns-in-On-clause-does : goal.returns-in-On-clause-does
returns-in-On-clause-does g c =
    let (calls, endures, does) = c.in-On.ensures.does in (
      calls,
      endures,
      (λ told conns k.
          piece_on c.args.c c.args.piece.now c.in-Some.ear c.in-On.ear c.args.lines.now.lines.items c.take.new.self.lines.items c.put.new.self.lines.items conns _ _ _ _ _
          (c.in-Some.ensures.some.1) c.put.ensures.lines k (c.requires.live told) (does told)),
    )

pub returns-in-Off-clause-does : goal.returns-in-Off-clause-does
returns-in-Off-clause-does g c =
    let (calls, endures, does) = c.in-Off.ensures.does in (
      calls,
      endures,
      (λ told conns k.
          piece_off c.args.c c.args.piece.now c.in-Some.ear _ c.args.lines.now.lines.items c.take.new.self.lines.items c.give.new.self.lines.items conns _ _ _ _ _
          (c.in-Some.ensures.some.1) c.give.ensures.lines k (c.requires.live told) (does told)),
    )
