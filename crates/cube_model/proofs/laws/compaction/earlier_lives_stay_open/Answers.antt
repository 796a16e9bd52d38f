use Rattle.cube_model.proofs.Compacts.{earlier_lives_stay_open}
use Rattle.cube_model.proofs.laws.compaction.earlier_lives_stay_open.Goals as goal

pub returns : goal.returns
returns c = earlier_lives_stay_open
