use Rattle.std.proofs.Common.{[]}
use Rattle.cube_server.proofs.Dealt.{none_dealt, one_dealt, body_dealt, dead_dealt}
use Rattle.cube_http.specs.Stream.Item.{Whole}
use Rattle.cube_server.proofs.Enduring.{endures_none}
use Rattle.cube_server.proofs.deal.deal.Goals as goal

pub returns-in-Head-clause-does : goal.returns-in-Head-clause-does
returns-in-Head-clause-does g c = ([], endures_none _, (λ told. rw c.in-Head.is (none_dealt (g.D.Desk.manner c.args.desk.now) c.args.c _ _)))

pub returns-in-Body-clause-does : goal.returns-in-Body-clause-does
returns-in-Body-clause-does g c = (
  [],
  endures_none _,
  (λ told. let says = rw c.waits.ensures at (c.deal_body.ensures.says told) in
      rw c.in-Body.is (body_dealt (g.D.Desk.manner c.args.desk.now) c.args.c _ _ _ _ _ c.requires.capacity says)),
)

pub returns-in-Done-clause-does : goal.returns-in-Done-clause-does
returns-in-Done-clause-does g c =
    let (calls, endures, deals) = c.deal_done.ensures.does in
    (calls, endures, (λ told. rw c.in-Done.is (one_dealt (g.D.Desk.manner c.args.desk.now) c.args.c (Whole c.in-Done.done) _ _ _ _ _ calls c.requires.capacity (deals told))))

pub returns-in-Dead-clause-does : goal.returns-in-Dead-clause-does
returns-in-Dead-clause-does g c = (
  [],
  endures_none _,
  (λ told. let off = c.deal_dead.ensures.off in
      rw (c.in-Dead.is, off) (dead_dealt (g.D.Desk.manner c.args.desk.now) c.args.c c.args.heard _ _ _ _ c.requires.capacity (c.deal_dead.ensures.says told))),
)
