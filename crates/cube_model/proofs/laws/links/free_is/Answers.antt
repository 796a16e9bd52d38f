use Rattle.cube_model.proofs.LinkFacts.{free_is}
use Rattle.cube_model.proofs.laws.links.free_is.Goals as goal

pub returns : goal.returns
returns c = free_is
