use Rattle.cube_http.proofs.Heads.{other_ends_none}
use Rattle.cube_http.proofs.connection.ends_here.Goals as goal

pub returns-else-last-eq10 : goal.returns-else-last-eq10
returns-else-last-eq10 c = let (front, is) = c.requires in other_ends_none front c.args.bytes.now c.args.last is c.if-last-eq10.false
