use Rattle.cube_journal.proofs.SecondBack as second
use Rattle.cube_journal.proofs.laws.second_is_short.Goals as goal

pub returns : goal.returns
returns c = second.second_is_short
