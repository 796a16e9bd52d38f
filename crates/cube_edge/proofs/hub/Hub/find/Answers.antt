use Rattle.std.proofs.Common.{◌∙◌}
use Rattle.std.specs.Prelude.{Some, None, Ok, Err}
use Rattle.cube_edge.proofs.Tying.{keeps_then, event_then, accept_then}
use Rattle.cube_edge.proofs.hub.Hub.find.Goals as goal

pub returns-in-Some-clause-takes : goal.returns-in-Some-clause-takes
returns-in-Some-clause-takes g c =
    event_then (Some c.in-Some.event) c.pass.new.buf (g.S.Sockets.state c.args.self.now.sockets) (g.S.Sockets.state c.flush.new.self.sockets) (g.S.Sockets.state c.pass.new.self.sockets) c.args.self.now.links.items c.flush.new.self.links.items c.pass.new.self.links.items c.flush.ensures.told c.flush.ensures.keeps c.in-Some.ensures.takes

pub returns-in-Ok-Some-clause-takes : goal.returns-in-Ok-Some-clause-takes
returns-in-Ok-Some-clause-takes g c =
    let first = g.S.Sockets.state c.args.self.now.sockets in
    let flushed = g.S.Sockets.state c.flush.new.self.sockets in
    let passed = g.S.Sockets.state c.pass.new.self.sockets in
    let keeps = keeps_then first flushed passed c.args.self.now.links.items c.flush.new.self.links.items c.pass.new.self.links.items c.flush.ensures.told c.flush.ensures.keeps c.in_default.ensures.takes in
    accept_then (Ok (Some c.in-Ok-Some.c)) first passed (g.S.Sockets.state c.admit.new.self.sockets) c.args.self.now.links.items c.pass.new.self.links.items c.admit.new.self.links.items (c.in_default.ensures.told ∙ c.flush.ensures.told) keeps (rw c.in-Ok-Some.field-0-is at c.in-Ok-Some.ensures.takes)

pub returns-in-Ok-None-clause-takes : goal.returns-in-Ok-None-clause-takes
returns-in-Ok-None-clause-takes g c =
    let first = g.S.Sockets.state c.args.self.now.sockets in
    let flushed = g.S.Sockets.state c.flush.new.self.sockets in
    let passed = g.S.Sockets.state c.pass.new.self.sockets in
    let keeps = keeps_then first flushed passed c.args.self.now.links.items c.flush.new.self.links.items c.pass.new.self.links.items c.flush.ensures.told c.flush.ensures.keeps c.in_default.ensures.takes in
    accept_then (Ok None) first passed (g.S.Sockets.state c.admit.new.self.sockets) c.args.self.now.links.items c.pass.new.self.links.items c.admit.new.self.links.items (c.in_default.ensures.told ∙ c.flush.ensures.told) keeps (rw c.in-Ok-None.field-0-is at c.in-Ok-None.ensures.takes)

pub returns-in-Err-clause-takes : goal.returns-in-Err-clause-takes
returns-in-Err-clause-takes g c =
    let first = g.S.Sockets.state c.args.self.now.sockets in
    let flushed = g.S.Sockets.state c.flush.new.self.sockets in
    let passed = g.S.Sockets.state c.pass.new.self.sockets in
    let keeps = keeps_then first flushed passed c.args.self.now.links.items c.flush.new.self.links.items c.pass.new.self.links.items c.flush.ensures.told c.flush.ensures.keeps c.in_default.ensures.takes in
    accept_then (Err c.in-Err.failed) first passed (g.S.Sockets.state c.admit.new.self.sockets) c.args.self.now.links.items c.pass.new.self.links.items c.admit.new.self.links.items (c.in_default.ensures.told ∙ c.flush.ensures.told) keeps c.in-Err.ensures.takes
