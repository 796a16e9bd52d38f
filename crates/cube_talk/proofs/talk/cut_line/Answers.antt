use Rattle.std.proofs.Common.{sym}
use Rattle.cube_talk.proofs.Cuts.{cut_at, none_fed}
use Rattle.cube_talk.proofs.talk.cut_line.Goals as goal

pub returns-in-Some-clause-some : goal.returns-in-Some-clause-some
returns-in-Some-clause-some c = cut_at c.args.bytes.now c.in-Some.at (sym c.in-Some.ensures)

pub returns-in-None-clause-none : goal.returns-in-None-clause-none
returns-in-None-clause-none c = none_fed c.args.bytes.now (sym c.in-None.ensures)
