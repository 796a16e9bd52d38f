use Rattle.cube_model.proofs.Orders.{rows_are_rows}
use Rattle.cube_model.proofs.laws.meanings.rows_are_rows.Goals as goal

pub returns : goal.returns
returns c = rows_are_rows
