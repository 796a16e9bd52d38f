use Rattle.std.proofs.Common.{◌≡◌, false, length, sym, ◌==◌}
use Rattle.cube_server.proofs.reply.send_body.Goals as goal

pub returns-clause-says : goal.returns-clause-says
returns-clause-says g c = λ told.
    let some : (length c.args.body.now == 0) ≡ false = sym c.if-is_empty.ensures in
    rw (c.if-head_only.false, some) (c.send_piece.ensures.says told)
