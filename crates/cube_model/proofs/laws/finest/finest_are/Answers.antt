use Rattle.cube_model.proofs.Safest.{finest_are}
use Rattle.cube_model.proofs.laws.finest.finest_are.Goals as goal

pub returns : goal.returns
returns c = finest_are
