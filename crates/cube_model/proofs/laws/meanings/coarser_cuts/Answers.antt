use Rattle.cube_model.proofs.Orders.{coarser_cuts}
use Rattle.cube_model.proofs.laws.meanings.coarser_cuts.Goals as goal

pub returns : goal.returns
returns c = coarser_cuts
