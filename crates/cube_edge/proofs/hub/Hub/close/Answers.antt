use Rattle.std.proofs.Common.{◌≡◌, ◌<◌, ◌≤◌, length, get_or, true, false, refl, rules}
use Rattle.cube_edge.specs.Links.{is_open}
use Rattle.cube_edge.proofs.Ending.{closes_at, closes_none, closed_there, closed_unopen}
use Rattle.cube_edge.proofs.Tying.{close_takes, no_close_takes, none_takes}
use Rattle.cube_edge.proofs.hub.Hub.close.Goals as goal

pub returns-then-is_open-clause-takes : goal.returns-then-is_open-clause-takes
returns-then-is_open-clause-takes g c =
    let few : c.args.c < length c.args.self.now.links.items = search rules in
    let is : c.in-Some.link.now ≡ get_or c.args.self.now.links.items c.args.c c.in-Some.link.now = search rules in
    let opens : is_open c.in-Some.link.now.stage ≡ true = search rules in
    close_takes c.args.c (g.S.Sockets.state c.args.self.now.sockets) (g.S.Sockets.state c.close.new.sockets) c.args.self.now.links.items c.in-Some.link.now c.close.new.self few is c.close.ensures.only c.close.ensures.shut opens c.close.ensures.stage c.close.ensures.waiting

pub returns-else-is_open-clause-takes : goal.returns-else-is_open-clause-takes
returns-else-is_open-clause-takes g c =
    let few : c.args.c < length c.args.self.now.links.items = search rules in
    let is : c.in-Some.link.now ≡ get_or c.args.self.now.links.items c.args.c c.in-Some.link.now = search rules in
    let ends : is_open c.in-Some.link.now.stage ≡ false = search rules in
    no_close_takes c.args.c (g.S.Sockets.state c.args.self.now.sockets) c.args.self.now.links.items c.in-Some.link.now few is ends

pub returns-in_default-clause-takes : goal.returns-in_default-clause-takes
returns-in_default-clause-takes g c =
    let past : length c.args.self.now.links.items ≤ c.args.c = search rules in
    none_takes c.args.c (g.S.Sockets.state c.args.self.now.sockets) c.args.self.now.links.items past

pub returns-then-is_open-clause-closes : goal.returns-then-is_open-clause-closes
returns-then-is_open-clause-closes g c =
    let few : c.args.c < length c.args.self.now.links.items = search rules in
    let is : c.in-Some.link.now ≡ get_or c.args.self.now.links.items c.args.c c.in-Some.link.now = search rules in
    let opens : is_open c.in-Some.link.now.stage ≡ true = search rules in
    closes_at c.args.c c.args.self.now.links.items c.in-Some.link.now c.close.new.self few is (closed_there c.in-Some.link.now c.close.new.self opens c.close.ensures.stage) (closed_unopen c.close.new.self c.in-Some.link.now.waiting c.close.ensures.stage)

pub returns-else-is_open-clause-closes : goal.returns-else-is_open-clause-closes
returns-else-is_open-clause-closes g c =
    let few : c.args.c < length c.args.self.now.links.items = search rules in
    let is : c.in-Some.link.now ≡ get_or c.args.self.now.links.items c.args.c c.in-Some.link.now = search rules in
    let ends : is_open c.in-Some.link.now.stage ≡ false = search rules in
    closes_at c.args.c c.args.self.now.links.items c.in-Some.link.now c.in-Some.link.now few is refl ends

pub returns-in_default-clause-closes : goal.returns-in_default-clause-closes
returns-in_default-clause-closes g c =
    let past : length c.args.self.now.links.items ≤ c.args.c = search rules in
    closes_none c.args.c c.args.self.now.links.items past
