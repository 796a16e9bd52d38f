use Rattle.cube_talk.specs.Replies.{said_text}
use Rattle.cube_talk.proofs.Puttings.{may_wait}
use Rattle.cube_talk.proofs.talk.say_line.Goals as goal

pub flush-requires : goal.flush-requires
flush-requires g c =
    may_wait g.O.Sink.allows (g.S.Store.state c.args.store.now) (g.O.Sink.state c.args.out.now).written (g.O.Sink.state c.say.new.out).written (said_text c.args.said.now) c.args.replies.now c.say.new.self c.requires c.in_ok-say.ensures.ok
