use Rattle.std.proofs.Common.{inl, ◌≡◌, ◌<◌, length, get_or, rules}
use Rattle.cube_edge.proofs.Ending.{lets_at, lets_none, stays_flushed}
use Rattle.cube_edge.proofs.Tying.{flush_keeps}
use Rattle.cube_edge.proofs.hub.Hub.flush.Goals as goal

pub returns-clause-keeps : goal.returns-clause-keeps
returns-clause-keeps g c =
    let few : c.args.self.now.sent < length c.args.self.now.links.items = search rules in
    let is : c.in-Some.link.now ≡ get_or c.args.self.now.links.items c.args.self.now.sent c.in-Some.link.now = search rules in
    flush_keeps c.args.self.now.sent (g.S.Sockets.state c.args.self.now.sockets) (g.S.Sockets.state c.flush.new.sockets) c.args.self.now.links.items c.in-Some.link.now c.flush.new.self few is c.flush.ensures.only c.flush.ensures.there c.flush.ensures.opens c.flush.ensures.goes c.flush.ensures.taken c.flush.ensures.unread c.flush.ensures.ends

pub returns-clause-lets : goal.returns-clause-lets
returns-clause-lets g c = λ told.
    let few : c.args.self.now.sent < length c.args.self.now.links.items = search rules in
    let is : c.in-Some.link.now ≡ get_or c.args.self.now.links.items c.args.self.now.sent c.in-Some.link.now = search rules in
    let e = c.flush.ensures in
    lets_at c.args.self.now.sent c.args.self.now.idle (g.S.Sockets.state c.args.self.now.sockets) (g.S.Sockets.state c.flush.new.sockets) c.args.self.now.links.items c.in-Some.link.now c.flush.new.self few is (e.only.elsewhere told)
    (inl (stays_flushed c.args.self.now.sent (g.S.Sockets.state c.args.self.now.sockets) (g.S.Sockets.state c.flush.new.sockets) c.in-Some.link.now c.flush.new.self e.there e.opens (e.goes told) (e.taken told) e.still))

pub returns-in_default-clause-lets : goal.returns-in_default-clause-lets
returns-in_default-clause-lets g c = λ told. lets_none c.args.self.now.idle (g.S.Sockets.state c.args.self.now.sockets) c.args.self.now.links.items
