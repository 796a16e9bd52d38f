use Rattle.cube_advise.proofs.Opening.{finest_open_are_answered}
use Rattle.cube_advise.proofs.laws.finest_open_are_answered.Goals as goal

pub returns : goal.returns
returns c = finest_open_are_answered
