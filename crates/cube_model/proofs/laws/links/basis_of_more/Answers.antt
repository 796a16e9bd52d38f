use Rattle.cube_model.proofs.Bases.{basis_of_more}
use Rattle.cube_model.proofs.laws.links.basis_of_more.Goals as goal

pub returns : goal.returns
returns c = basis_of_more
