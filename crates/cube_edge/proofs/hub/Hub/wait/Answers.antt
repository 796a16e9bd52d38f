use Rattle.cube_edge.proofs.Tying.{still}
use Rattle.cube_edge.proofs.hub.Hub.wait.Goals as goal

pub returns-in_err-self-clause-keeps : goal.returns-in_err-self-clause-keeps
returns-in_err-self-clause-keeps g c = still (g.S.Sockets.state c.args.self.now.sockets) (g.S.Sockets.state c.wait.new.self) c.args.self.now.links.items c.wait.ensures.quiet

pub returns-clause-keeps : goal.returns-clause-keeps
returns-clause-keeps g c = still (g.S.Sockets.state c.args.self.now.sockets) (g.S.Sockets.state c.wait.new.self) c.args.self.now.links.items c.wait.ensures.quiet
