use Rattle.std.proofs.Common.{◌≡◌, ◌<◌, length, get_or, rules}
use Rattle.cube_edge.proofs.Tying.{still, accept_takes, was_accepted, none_accepted}
use Rattle.cube_edge.proofs.hub.Hub.admit.Goals as goal

pub returns-in-Ok-true-clause-takes : goal.returns-in-Ok-true-clause-takes
returns-in-Ok-true-clause-takes g c =
    let few : c.in-Some.place < length c.args.self.now.links.items = search rules in
    let is : c.index_mut.result.now ≡ get_or c.args.self.now.links.items c.in-Some.place c.index_mut.result.now = search rules in
    accept_takes c.in-Some.place (g.S.Sockets.state c.args.self.now.sockets) (g.S.Sockets.state c.accept.new.self) c.args.self.now.links.items c.index_mut.result.now c.new.result few is (λ told. was_accepted c.in-Ok-true.field-0 c.in-Some.place (g.S.Sockets.state c.args.self.now.sockets) (g.S.Sockets.state c.accept.new.self) c.in-Ok-true.field-0-test (c.in-Ok-true.ensures.bytes told)) c.new.ensures.stage c.new.ensures.waiting c.new.ensures.unread

pub returns-in-Ok-false-clause-takes : goal.returns-in-Ok-false-clause-takes
returns-in-Ok-false-clause-takes g c = λ told. still (g.S.Sockets.state c.args.self.now.sockets) (g.S.Sockets.state c.accept.new.self) c.args.self.now.links.items (none_accepted c.in-Ok-false.field-0 c.in-Some.place (g.S.Sockets.state c.args.self.now.sockets) (g.S.Sockets.state c.accept.new.self) c.in-Ok-false.field-0-test (c.in-Ok-false.ensures.bytes told)) told

pub returns-in-Err-clause-takes : goal.returns-in-Err-clause-takes
returns-in-Err-clause-takes g c = λ told. still (g.S.Sockets.state c.args.self.now.sockets) (g.S.Sockets.state c.accept.new.self) c.args.self.now.links.items (c.in-Err.ensures.bytes told) told
