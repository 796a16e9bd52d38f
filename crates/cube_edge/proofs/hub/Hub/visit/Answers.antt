use Rattle.std.proofs.Common.{inl, inr, ◌≡◌, ◌<◌, length, get_or, take, false, rules}
use Rattle.cube_io.specs.Wires.Arrival.{Came, Closed}
use Rattle.cube_io.specs.Wires.LogEntry.{Heard}
use Rattle.cube_edge.specs.Links.{is_open}
use Rattle.cube_edge.proofs.Ending.{lets_at, set_elsewhere}
use Rattle.cube_edge.proofs.Tying.{takes_at, keeps_at, came_leaves, closed_leaves, closed_ties, gone_ties}
use Rattle.cube_edge.proofs.hub.Hub.visit.Goals as goal

pub returns-in-Piece-clause-takes : goal.returns-in-Piece-clause-takes
returns-in-Piece-clause-takes g c =
    let few : c.args.place < length c.args.self.now.links.items = search rules in
    let is : c.index_mut-link.result.now ≡ get_or c.args.self.now.links.items c.args.place c.index_mut-link.result.now = search rules in
    let bytes = take c.in-Piece.count c.turn-look.new.buf in
    takes_at c.args.place (Heard (Came c.args.place bytes)) (g.S.Sockets.state c.args.self.now.sockets) (g.S.Sockets.state c.turn-look.new.sockets) c.args.self.now.links.items c.index_mut-link.result.now c.turn-look.new.self few is c.turn-look.ensures.others (came_leaves c.args.place bytes) c.in-Piece.ensures.ties

pub returns-in-Gone-clause-takes : goal.returns-in-Gone-clause-takes
returns-in-Gone-clause-takes g c =
    let few : c.args.place < length c.args.self.now.links.items = search rules in
    let is : c.index_mut-link.result.now ≡ get_or c.args.self.now.links.items c.args.place c.index_mut-link.result.now = search rules in
    takes_at c.args.place (Heard (Closed c.args.place)) (g.S.Sockets.state c.args.self.now.sockets) (g.S.Sockets.state c.turn-look.new.sockets) c.args.self.now.links.items c.index_mut-link.result.now c.turn-look.new.self few is c.turn-look.ensures.others (closed_leaves c.args.place)
    (λ told. closed_ties c.args.place (g.S.Sockets.state c.args.self.now.sockets) (g.S.Sockets.state c.turn-look.new.sockets) c.index_mut-link.result.now c.turn-look.new.self (c.in-Gone.ensures.ties told))

pub returns-in-Gone-2-clause-takes : goal.returns-in-Gone-2-clause-takes
returns-in-Gone-2-clause-takes g c =
    let few : c.args.place < length c.args.self.now.links.items = search rules in
    let is : c.index_mut-link.result.now ≡ get_or c.args.self.now.links.items c.args.place c.index_mut-link.result.now = search rules in
    let was : is_open c.index_mut-link.result.now.stage ≡ false = search rules in
    keeps_at c.args.place (g.S.Sockets.state c.args.self.now.sockets) (g.S.Sockets.state c.turn-look.new.sockets) c.args.self.now.links.items c.index_mut-link.result.now c.turn-look.new.self few is c.turn-look.ensures.others (λ told. gone_ties c.args.place (g.S.Sockets.state c.args.self.now.sockets) (g.S.Sockets.state c.turn-look.new.sockets) c.index_mut-link.result.now c.turn-look.new.self (c.in-Gone.ensures.ties told) was)

pub returns-in-Quiet-clause-takes : goal.returns-in-Quiet-clause-takes
returns-in-Quiet-clause-takes g c =
    let few : c.args.place < length c.args.self.now.links.items = search rules in
    let is : c.index_mut-link.result.now ≡ get_or c.args.self.now.links.items c.args.place c.index_mut-link.result.now = search rules in
    keeps_at c.args.place (g.S.Sockets.state c.args.self.now.sockets) (g.S.Sockets.state c.turn-look.new.sockets) c.args.self.now.links.items c.index_mut-link.result.now c.turn-look.new.self few is c.turn-look.ensures.others c.in-Quiet.ensures.ties

pub returns-in-Piece-clause-lets : goal.returns-in-Piece-clause-lets
returns-in-Piece-clause-lets g c = λ told.
    let few : c.args.place < length c.args.self.now.links.items = search rules in
    let is : c.index_mut-link.result.now ≡ get_or c.args.self.now.links.items c.args.place c.index_mut-link.result.now = search rules in
    lets_at c.args.place c.args.self.now.idle (g.S.Sockets.state c.args.self.now.sockets) (g.S.Sockets.state c.turn-look.new.sockets) c.args.self.now.links.items c.index_mut-link.result.now c.turn-look.new.self few is (c.turn-look.ensures.others told) (inl (c.in-Piece.ensures.finds told))

pub returns-in-Piece-clause-rest : goal.returns-in-Piece-clause-rest
returns-in-Piece-clause-rest g c = λ d differs. set_elsewhere c.args.self.now.links.items c.args.place d c.turn-look.new.self differs

pub returns-in-Gone-clause-lets : goal.returns-in-Gone-clause-lets
returns-in-Gone-clause-lets g c = λ told.
    let few : c.args.place < length c.args.self.now.links.items = search rules in
    let is : c.index_mut-link.result.now ≡ get_or c.args.self.now.links.items c.args.place c.index_mut-link.result.now = search rules in
    lets_at c.args.place c.args.self.now.idle (g.S.Sockets.state c.args.self.now.sockets) (g.S.Sockets.state c.turn-look.new.sockets) c.args.self.now.links.items c.index_mut-link.result.now c.turn-look.new.self few is (c.turn-look.ensures.others told) (inr (c.in-Gone.ensures.finds told))

pub returns-in-Gone-clause-rest : goal.returns-in-Gone-clause-rest
returns-in-Gone-clause-rest g c = λ d differs. set_elsewhere c.args.self.now.links.items c.args.place d c.turn-look.new.self differs

pub returns-in-Gone-2-clause-lets : goal.returns-in-Gone-2-clause-lets
returns-in-Gone-2-clause-lets g c = λ told.
    let few : c.args.place < length c.args.self.now.links.items = search rules in
    let is : c.index_mut-link.result.now ≡ get_or c.args.self.now.links.items c.args.place c.index_mut-link.result.now = search rules in
    lets_at c.args.place c.args.self.now.idle (g.S.Sockets.state c.args.self.now.sockets) (g.S.Sockets.state c.turn-look.new.sockets) c.args.self.now.links.items c.index_mut-link.result.now c.turn-look.new.self few is (c.turn-look.ensures.others told) (inr (c.in-Gone.ensures.finds told))

pub returns-in-Gone-2-clause-rest : goal.returns-in-Gone-2-clause-rest
returns-in-Gone-2-clause-rest g c = λ d differs. set_elsewhere c.args.self.now.links.items c.args.place d c.turn-look.new.self differs

pub returns-in-Quiet-clause-lets : goal.returns-in-Quiet-clause-lets
returns-in-Quiet-clause-lets g c = λ told.
    let few : c.args.place < length c.args.self.now.links.items = search rules in
    let is : c.index_mut-link.result.now ≡ get_or c.args.self.now.links.items c.args.place c.index_mut-link.result.now = search rules in
    lets_at c.args.place c.args.self.now.idle (g.S.Sockets.state c.args.self.now.sockets) (g.S.Sockets.state c.turn-look.new.sockets) c.args.self.now.links.items c.index_mut-link.result.now c.turn-look.new.self few is (c.turn-look.ensures.others told) (inl (c.in-Quiet.ensures.finds told))

pub returns-in-Quiet-clause-rest : goal.returns-in-Quiet-clause-rest
returns-in-Quiet-clause-rest g c = λ d differs. set_elsewhere c.args.self.now.links.items c.args.place d c.turn-look.new.self differs
