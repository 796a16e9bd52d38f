use Rattle.cube_carry.proofs.OldPlaces.{old_cells}
use Rattle.cube_carry.proofs.laws.two_lives.old_cells.Goals as goal

pub returns : goal.returns
returns c = old_cells
