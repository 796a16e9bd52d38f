use Rattle.cube_advise.proofs.Opening.{finest_open_at_first}
use Rattle.cube_advise.proofs.laws.finest_open_at_first.Goals as goal

pub returns : goal.returns
returns c = finest_open_at_first
