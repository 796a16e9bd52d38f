use Rattle.std.proofs.Common.{sym, refl}
use Rattle.cube_server.proofs.Found.{taken_out, none_there}
use Rattle.cube_server.proofs.lines.take_out.Goals as goal

pub returns-in_err-at-clause-none : goal.returns-in_err-at-clause-none
returns-in_err-at-clause-none c = rw c.from_residual.ensures (none_there c.args.c c.args.lines.now.items (rw c.deref.ensures.value at (sym c.in_err-at.ensures)), refl)

pub returns-clause-some : goal.returns-clause-some
returns-clause-some c =
    taken_out c.args.c c.args.lines.now.items c.remove.new.self.items c.in_ok-at.at c.remove.result (rw c.deref.ensures.value at (sym c.in_ok-at.ensures)) c.remove.ensures.value c.remove.ensures.by_index.2
