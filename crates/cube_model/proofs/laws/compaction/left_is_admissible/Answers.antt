use Rattle.cube_model.proofs.Left.{left_is_admissible}
use Rattle.cube_model.proofs.laws.compaction.left_is_admissible.Goals as goal

pub returns : goal.returns
returns c = left_is_admissible
