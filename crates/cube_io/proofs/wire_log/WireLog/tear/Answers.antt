use Rattle.std.proofs.Common.{arith, length}
use Rattle.cube_io.proofs.Scrolled.{torn_pays}
use Rattle.cube_io.proofs.wire_log.WireLog.tear.Goals as goal

pub add-requires-clause-entry : goal.add-requires-clause-entry
add-requires-clause-entry c = omega (arith, torn_pays c.args.c c.front-said.result.now (length c.args.piece.now) c.args.self.now.scroll.log c.requires, c.args.self.now.enough, c.args.self.now.capacity)

pub overflow_sub-self : goal.overflow_sub-self
overflow_sub-self c = omega (arith, torn_pays c.args.c c.front-said.result.now (length c.args.piece.now) c.args.self.now.scroll.log c.requires, c.args.self.now.enough, c.args.self.now.capacity)
