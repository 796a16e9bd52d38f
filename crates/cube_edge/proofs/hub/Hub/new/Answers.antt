use Rattle.cube_edge.proofs.Tying.{free_ties}
use Rattle.cube_edge.proofs.hub.Hub.new.Goals as goal

pub returns-clause-tied : goal.returns-clause-tied
returns-clause-tied g c = free_ties (g.S.Sockets.state c.args.sockets) c.in_ok-make_links.field-0.items c.in_ok-make_links.ensures.free
