use Rattle.cube_server.proofs.Meetings.{closed_meets, unknown_closed}
use Rattle.cube_server.proofs.serving.close_conn.Goals as goal

pub returns-in-Some-clause-meets : goal.returns-in-Some-clause-meets
returns-in-Some-clause-meets c = λ log o desk conns k.
    closed_meets desk.manner c.args.c c.in-Some.ear c.args.lines.now.lines.items c.take.new.self.lines.items c.give.new.self.lines.items conns desk log (c.in-Some.ensures.some.1) c.give.ensures.lines k o

pub returns-in-None-clause-meets : goal.returns-in-None-clause-meets
returns-in-None-clause-meets c = λ log o desk conns k.
    unknown_closed desk.manner c.args.c c.args.lines.now.lines.items c.take.new.self.lines.items conns desk log (c.in-None.ensures.none.1) (c.in-None.ensures.none.2) k o
