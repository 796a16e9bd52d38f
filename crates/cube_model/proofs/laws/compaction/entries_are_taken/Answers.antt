use Rattle.cube_model.proofs.Left.{entries_are_taken}
use Rattle.cube_model.proofs.laws.compaction.entries_are_taken.Goals as goal

pub returns : goal.returns
returns c = entries_are_taken
