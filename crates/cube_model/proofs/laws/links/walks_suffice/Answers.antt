use Rattle.cube_model.proofs.LinkFacts.{walks_suffice}
use Rattle.cube_model.proofs.laws.links.walks_suffice.Goals as goal

pub returns : goal.returns
returns c = walks_suffice
