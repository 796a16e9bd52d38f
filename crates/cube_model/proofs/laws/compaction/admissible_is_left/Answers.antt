use Rattle.cube_model.proofs.Left.{admissible_is_left}
use Rattle.cube_model.proofs.laws.compaction.admissible_is_left.Goals as goal

pub returns : goal.returns
returns c = admissible_is_left
