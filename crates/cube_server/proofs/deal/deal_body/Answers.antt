use Rattle.std.proofs.Common.{refl, false}
use Rattle.cube_server.proofs.Spoken.{none_spoken}
use Rattle.cube_server.specs.Steps.{body_said}
use Rattle.cube_server.proofs.deal.deal_body.Goals as goal

pub returns-then-not-waits-clause-says : goal.returns-then-not-waits-clause-says
returns-then-not-waits-clause-says g c = λ told. rw c.if-not-waits.true (none_spoken c.args.c (body_said c.args.c false) (g.W.Wire.state c.args.wire.now).log (λ k. refl))

pub returns-then-send_piece-clause-says : goal.returns-then-send_piece-clause-says
returns-then-send_piece-clause-says g c = λ told. rw c.if-not-waits.false (c.if-send_piece.ensures.says told)

pub returns-else-send_piece-clause-says : goal.returns-else-send_piece-clause-says
returns-else-send_piece-clause-says g c = λ told. rw c.if-not-waits.false (c.if-send_piece.ensures.says told)
