use Rattle.cube_journal.proofs.SecondBack as second
use Rattle.cube_journal.proofs.laws.second_reads_back.Goals as goal

pub returns : goal.returns
returns c = second.second_reads_back
