use Rattle.cube_journal.proofs.KeptBytes as kept
use Rattle.cube_journal.proofs.laws.kept_recovers.Goals as goal

pub returns : goal.returns
returns c = kept.kept_recovers
