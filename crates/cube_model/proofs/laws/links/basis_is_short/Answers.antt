use Rattle.cube_model.proofs.Bases.{basis_is_short}
use Rattle.cube_model.proofs.laws.links.basis_is_short.Goals as goal

pub returns : goal.returns
returns c = basis_is_short
