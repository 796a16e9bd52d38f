use Rattle.cube_model.proofs.Safest.{finest_are_answered}
use Rattle.cube_model.proofs.laws.finest.finest_are_answered.Goals as goal

pub returns : goal.returns
returns c = finest_are_answered
