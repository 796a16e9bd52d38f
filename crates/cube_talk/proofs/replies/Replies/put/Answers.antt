use Rattle.std.proofs.Common.{rules}
use Rattle.std.specs.Io.KnownBytes.{Appends}
use Rattle.cube_talk.proofs.Puttings.{may_behind, may_whole}
use Rattle.cube_talk.proofs.replies.Replies.put.Goals as goal

pub put-requires : goal.put-requires
put-requires g c =
    let store = g.S.Store.state c.args.store.now in
    let before = (g.O.Sink.state c.args.out.now).written in
    let now = (g.O.Sink.state c.flush.new.out).written in
    let put : Appends before now c.args.self.now = search rules in
    may_whole g.O.Sink.allows store now c.args.bytes.now (may_behind g.O.Sink.allows store before now c.args.self.now c.args.bytes.now c.requires put)
