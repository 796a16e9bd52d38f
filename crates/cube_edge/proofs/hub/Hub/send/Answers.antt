use Rattle.std.proofs.Common.{◌≡◌, ◌<◌, length, get_or, slice_set, true, refl, ap, rules}
use Rattle.cube_edge.specs.Links.{is_open, is_there}
use Rattle.cube_edge.proofs.Ending.{there_at, there_same}
use Rattle.cube_edge.proofs.Tying.{send_takes, no_send_takes, same_keeps, unsent_keeps}
use Rattle.cube_edge.proofs.hub.Hub.send.Goals as goal

pub returns-in_default-clause-takes : goal.returns-in_default-clause-takes
returns-in_default-clause-takes g c =
    let s = g.S.Sockets.state c.args.self.now.sockets in
    no_send_takes c.args.c (length c.args.piece.now) s s c.args.self.now.links.items c.args.self.now.links.items (λ on log tied. tied)

pub returns-then-not-is_open-clause-takes : goal.returns-then-not-is_open-clause-takes
returns-then-not-is_open-clause-takes g c =
    let s = g.S.Sockets.state c.args.self.now.sockets in
    let links = c.args.self.now.links.items in
    let few : c.args.c < length links = search rules in
    let is : c.in-Some.link.now ≡ get_or links c.args.c c.in-Some.link.now = search rules in
    no_send_takes c.args.c (length c.args.piece.now) s s links (slice_set links c.args.c c.in-Some.link.now) (same_keeps c.args.c s links c.in-Some.link.now few is)

pub returns-in-Ok-clause-takes : goal.returns-in-Ok-clause-takes
returns-in-Ok-clause-takes g c =
    let s = g.S.Sockets.state c.args.self.now.sockets in
    let links = c.args.self.now.links.items in
    let few : c.args.c < length links = search rules in
    let is : c.in-Some.link.now ≡ get_or links c.args.c c.in-Some.link.now = search rules in
    let opens : is_open c.in-Some.link.now.stage ≡ true = search rules in
    send_takes c.args.c c.args.piece.now s links c.in-Some.link.now c.send.new.self few is opens c.send.ensures.stage c.in-Ok.ensures.ok c.send.ensures.unread

pub returns-in-Err-clause-takes : goal.returns-in-Err-clause-takes
returns-in-Err-clause-takes g c =
    let s = g.S.Sockets.state c.args.self.now.sockets in
    let links = c.args.self.now.links.items in
    let few : c.args.c < length links = search rules in
    let is : c.in-Some.link.now ≡ get_or links c.args.c c.in-Some.link.now = search rules in
    no_send_takes c.args.c (length c.args.piece.now) s s links (slice_set links c.args.c c.send.new.self) (unsent_keeps c.args.c s links c.in-Some.link.now c.send.new.self few is c.send.ensures.stage c.in-Err.ensures.err c.send.ensures.unread)

pub returns-in-Ok-clause-there : goal.returns-in-Ok-clause-there
returns-in-Ok-clause-there g c =
    let links = c.args.self.now.links.items in
    let few : c.args.c < length links = search rules in
    let is : c.in-Some.link.now ≡ get_or links c.args.c c.in-Some.link.now = search rules in
    there_at c.args.c links c.in-Some.link.now c.send.new.self few is (ap is_there c.send.ensures.stage)

pub returns-in-Err-clause-there : goal.returns-in-Err-clause-there
returns-in-Err-clause-there g c =
    let links = c.args.self.now.links.items in
    let few : c.args.c < length links = search rules in
    let is : c.in-Some.link.now ≡ get_or links c.args.c c.in-Some.link.now = search rules in
    there_at c.args.c links c.in-Some.link.now c.send.new.self few is (ap is_there c.send.ensures.stage)

pub returns-then-not-is_open-clause-there : goal.returns-then-not-is_open-clause-there
returns-then-not-is_open-clause-there g c =
    let links = c.args.self.now.links.items in
    let few : c.args.c < length links = search rules in
    let is : c.in-Some.link.now ≡ get_or links c.args.c c.in-Some.link.now = search rules in
    there_at c.args.c links c.in-Some.link.now c.in-Some.link.now few is refl

pub returns-in_default-clause-there : goal.returns-in_default-clause-there
returns-in_default-clause-there g c = there_same c.args.self.now.links.items
