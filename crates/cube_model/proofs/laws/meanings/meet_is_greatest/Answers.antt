use Rattle.cube_model.proofs.Orders.{meet_is_greatest}
use Rattle.cube_model.proofs.laws.meanings.meet_is_greatest.Goals as goal

pub returns : goal.returns
returns c = meet_is_greatest
