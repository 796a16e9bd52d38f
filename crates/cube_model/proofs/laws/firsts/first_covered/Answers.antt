use Rattle.cube_model.proofs.Leasts.{first_covered}
use Rattle.cube_model.proofs.laws.firsts.first_covered.Goals as goal

pub returns : goal.returns
returns c = first_covered
