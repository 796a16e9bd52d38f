use Rattle.cube_model.proofs.LinkFacts.{suiting_is}
use Rattle.cube_model.proofs.laws.links.suiting_is.Goals as goal

pub returns : goal.returns
returns c = suiting_is
