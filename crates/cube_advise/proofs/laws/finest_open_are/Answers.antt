use Rattle.cube_advise.proofs.Opening.{finest_open_are}
use Rattle.cube_advise.proofs.laws.finest_open_are.Goals as goal

pub returns : goal.returns
returns c = finest_open_are
