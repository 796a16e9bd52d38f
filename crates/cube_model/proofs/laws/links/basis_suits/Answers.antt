use Rattle.cube_model.proofs.LinkFacts.{basis_suits}
use Rattle.cube_model.proofs.laws.links.basis_suits.Goals as goal

pub returns : goal.returns
returns c = basis_suits
