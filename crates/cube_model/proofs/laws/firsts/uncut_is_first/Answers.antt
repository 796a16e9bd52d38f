use Rattle.cube_model.proofs.Leasts.{uncut_is_first}
use Rattle.cube_model.proofs.laws.firsts.uncut_is_first.Goals as goal

pub returns : goal.returns
returns c = uncut_is_first
