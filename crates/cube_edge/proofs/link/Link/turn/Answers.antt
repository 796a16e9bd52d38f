use Rattle.cube_edge.proofs.Tying.{piece_ties}
use Rattle.cube_edge.proofs.link.Link.turn.Goals as goal

pub returns-in-Piece-clause-ties : goal.returns-in-Piece-clause-ties
returns-in-Piece-clause-ties g c = λ told.
    let e = c.in-Piece.ensures in
    piece_ties c.args.c c.in-Piece.count c.visit.new.buf (g.S.Sockets.state c.args.sockets.now) (g.S.Sockets.state c.visit.new.sockets) c.args.self.now c.visit.new.self e.none e.there e.opens (e.hears told) (e.goes told) (e.ends told)
