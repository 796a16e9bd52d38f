use Rattle.std.proofs.Common.{refl, false}
use Rattle.cube_server.specs.Logs.{shut_if}
use Rattle.cube_server.proofs.Spoken.{none_spoken, shut_spoken, sound_open}
use Rattle.cube_server.proofs.reply.end_reply.Goals as goal

pub returns-then-close-clause-says : goal.returns-then-close-clause-says
returns-then-close-clause-says g c = λ told. rw c.if-close.true (shut_spoken c.args.c (g.W.Wire.state c.args.wire.now).log (g.W.Wire.state c.close.new.self).log (c.close.ensures.log told))

pub returns-clause-says : goal.returns-clause-says
returns-clause-says g c = λ told. rw c.if-close.false (none_spoken c.args.c (shut_if false c.args.c) (g.W.Wire.state c.args.wire.now).log (λ k. refl))

pub close-requires : goal.close-requires
close-requires g c = λ told. sound_open c.args.c false false (g.W.Wire.state c.args.wire.now).log (λ f. f) (c.requires told)
