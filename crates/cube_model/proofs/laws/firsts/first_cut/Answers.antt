use Rattle.cube_model.proofs.Leasts.{first_cut}
use Rattle.cube_model.proofs.laws.firsts.first_cut.Goals as goal

pub returns : goal.returns
returns c = first_cut
