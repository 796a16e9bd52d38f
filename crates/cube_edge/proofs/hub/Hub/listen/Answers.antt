use Rattle.cube_edge.proofs.Tying.{still}
use Rattle.cube_edge.proofs.hub.Hub.listen.Goals as goal

pub returns-clause-keeps : goal.returns-clause-keeps
returns-clause-keeps g c = still (g.S.Sockets.state c.args.self.now.sockets) (g.S.Sockets.state c.listen.new.self) c.args.self.now.links.items c.listen.ensures.quiet
