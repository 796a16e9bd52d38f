use Rattle.cube_model.proofs.Leasts.{finds_none}
use Rattle.cube_model.proofs.laws.firsts.finds_none.Goals as goal

pub returns : goal.returns
returns c = finds_none
