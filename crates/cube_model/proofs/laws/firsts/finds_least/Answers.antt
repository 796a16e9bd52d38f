use Rattle.cube_model.proofs.Leasts.{finds_least}
use Rattle.cube_model.proofs.laws.firsts.finds_least.Goals as goal

pub returns : goal.returns
returns c = finds_least
