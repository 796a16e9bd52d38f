use Rattle.cube_journal.proofs.Longer as longer
use Rattle.cube_journal.proofs.laws.logs_grow.Goals as goal

pub returns : goal.returns
returns c = longer.logs_grow
