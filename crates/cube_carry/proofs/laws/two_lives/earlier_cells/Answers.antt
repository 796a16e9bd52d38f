use Rattle.cube_carry.proofs.InTurn.{earlier_cells}
use Rattle.cube_carry.proofs.laws.two_lives.earlier_cells.Goals as goal

pub returns : goal.returns
returns c = earlier_cells
