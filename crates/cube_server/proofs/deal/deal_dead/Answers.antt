use Rattle.std.proofs.Common.{refl}
use Rattle.cube_server.proofs.deal.deal_dead.Goals as goal

pub returns-clause-says : goal.returns-clause-says
returns-clause-says g c = λ told. let s = rw (c.send_reply-shut.ensures.closed refl) at (c.send_reply-shut.ensures.says told) in rw c.in-Bad.is s
