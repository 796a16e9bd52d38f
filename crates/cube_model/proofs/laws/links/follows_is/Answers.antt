use Rattle.cube_model.proofs.LinkFacts.{follows_is}
use Rattle.cube_model.proofs.laws.links.follows_is.Goals as goal

pub returns : goal.returns
returns c = follows_is
