use Rattle.cube_model.proofs.Ranks.{protected_in_order}
use Rattle.cube_model.proofs.laws.meanings.protected_in_order.Goals as goal

pub returns : goal.returns
returns c = protected_in_order
