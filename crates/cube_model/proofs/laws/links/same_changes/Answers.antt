use Rattle.cube_model.proofs.LinkFacts.{same_changes}
use Rattle.cube_model.proofs.laws.links.same_changes.Goals as goal

pub returns : goal.returns
returns c = same_changes
