use Rattle.cube_server.proofs.deal.answer_request.Goals as goal

pub returns-clause-does : goal.returns-clause-does
returns-clause-does g c =
    let (calls, endures, made) = c.make_reply-reply.ensures.does in (
      calls,
      endures,
      (λ told. made c.args.done.now c.args.c (g.W.Wire.state c.args.wire.now).log (g.W.Wire.state c.send_reply.new.wire).log c.send_reply.result (rw (c.closes.ensures, c.head_only.ensures) at (c.send_reply.ensures.says told))),
    )
