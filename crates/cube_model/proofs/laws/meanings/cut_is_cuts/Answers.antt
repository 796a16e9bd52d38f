use Rattle.cube_model.proofs.Orders.{cut_is_cuts}
use Rattle.cube_model.proofs.laws.meanings.cut_is_cuts.Goals as goal

pub returns : goal.returns
returns c = cut_is_cuts
