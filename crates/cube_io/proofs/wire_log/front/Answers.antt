use Rattle.std.proofs.Common.{sym, drop, take-append-drop}
use Rattle.cube_io.proofs.wire_log.front.Goals as goal

pub returns-then-goes-capacity-clause-front : goal.returns-then-goes-capacity-clause-front
returns-then-goes-capacity-clause-front c = (drop c.args.goes c.args.piece.now, sym (take-append-drop c.args.goes c.args.piece.now))
