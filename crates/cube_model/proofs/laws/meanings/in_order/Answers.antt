use Rattle.cube_model.proofs.Orders.{in_order_law}
use Rattle.cube_model.proofs.laws.meanings.in_order.Goals as goal

pub returns : goal.returns
returns c = in_order_law
