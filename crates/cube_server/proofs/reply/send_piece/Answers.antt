use Rattle.std.proofs.Common.{length}
use Rattle.cube_server.proofs.Spoken.{still_open, all_spoken, some_spoken}
use Rattle.cube_server.proofs.reply.send_piece.Goals as goal

pub close-requires : goal.close-requires
close-requires g c = λ told.
    let was = rw c.in-Err.ensures.plays.told at told in
    let (said, unsaid, split, grows) = c.in-Err.ensures.log was in
    still_open c.args.c said (length c.args.piece.now) (g.W.Wire.state c.args.wire.now).log (g.W.Wire.state c.send.new.self).log (c.requires was) grows

pub returns-in-Ok-clause-says : goal.returns-in-Ok-clause-says
returns-in-Ok-clause-says g c = λ told. all_spoken c.args.c c.args.piece.now (g.W.Wire.state c.args.wire.now).log (g.W.Wire.state c.send.new.self).log (c.in-Ok.ensures.log told)

pub returns-in-Err-clause-says : goal.returns-in-Err-clause-says
returns-in-Err-clause-says g c = λ told.
    let (said, unsaid, split, grows) = c.in-Err.ensures.log told in
    some_spoken c.args.c c.args.piece.now said unsaid (g.W.Wire.state c.args.wire.now).log (g.W.Wire.state c.send.new.self).log (g.W.Wire.state c.close.new.self).log split grows (c.close.ensures.log (rw c.in-Err.ensures.plays.told told))
