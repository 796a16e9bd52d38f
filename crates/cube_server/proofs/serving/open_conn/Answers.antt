use Rattle.cube_server.proofs.Meetings.{opened_meets, busy_meets}
use Rattle.cube_server.proofs.serving.open_conn.Goals as goal

pub returns-in-Some-clause-meets : goal.returns-in-Some-clause-meets
returns-in-Some-clause-meets g c = λ told o desk conns k.
    opened_meets desk.manner c.args.c c.args.lines.now.lines.items c.fresh_ear.new.lines.lines.items c.put.new.self.lines.items _ conns desk (g.W.Wire.state c.args.wire.now).log (c.in-Some.ensures.some.2) c.put.ensures.lines (c.in-Some.ensures.some.1) k o
    (c.requires.live told)

pub returns-in-None-clause-meets : goal.returns-in-None-clause-meets
returns-in-None-clause-meets g c = λ told o desk conns k.
    let n = c.in-None.ensures.none in
    busy_meets desk.manner c.args.c c.args.lines.now.lines.items c.fresh_ear.new.lines.lines.items conns desk (g.W.Wire.state c.args.wire.now).log (g.W.Wire.state c.send_reply-shut.new.wire).log c.send_reply-shut.result n.1 n.2 n.3 k o (c.send_reply-shut.ensures.says told)
