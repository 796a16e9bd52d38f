use Rattle.cube_server.proofs.Spoken.{no_reply, half_reply, whole_reply}
use Rattle.cube_server.proofs.reply.send_reply.Goals as goal

pub returns-then-not-send_piece-clause-says : goal.returns-then-not-send_piece-clause-says
returns-then-not-send_piece-clause-says g c = λ told.
    no_reply c.args.c c.args.reply.now c.args.close c.args.head_only _ (g.W.Wire.state c.args.wire.now).log (g.W.Wire.state c.send_piece.new.wire).log c.write_head-len.ensures.written (c.if-not-send_piece.ensures.says told)

pub returns-then-not-send_body-clause-says : goal.returns-then-not-send_body-clause-says
returns-then-not-send_body-clause-says g c = λ told.
    let then = rw c.if-not-send_piece.ensures.sending.plays.told at c.if-not-send_body.ensures.says in
    half_reply c.args.c c.args.reply.now c.args.close c.args.head_only _ c.body_of.result.now (g.W.Wire.state c.args.wire.now).log (g.W.Wire.state c.send_piece.new.wire).log (g.W.Wire.state c.send_body.new.wire).log c.write_head-len.ensures.written
    c.body_of.ensures (c.if-not-send_piece.ensures.says told) (then told)

pub returns-clause-says : goal.returns-clause-says
returns-clause-says g c = λ told.
    let then = rw c.if-not-send_piece.ensures.sending.plays.told at c.if-not-send_body.ensures.says in
    let last = rw (c.if-not-send_body.ensures.sending.plays.told, c.if-not-send_piece.ensures.sending.plays.told) at c.end_reply.ensures.says in
    whole_reply c.args.c c.args.reply.now c.args.close c.args.head_only _ c.body_of.result.now (g.W.Wire.state c.args.wire.now).log (g.W.Wire.state c.send_piece.new.wire).log (g.W.Wire.state c.send_body.new.wire).log (g.W.Wire.state c.end_reply.new.wire).log
    c.end_reply.result c.write_head-len.ensures.written c.body_of.ensures (c.if-not-send_piece.ensures.says told) (then told) (last told)
