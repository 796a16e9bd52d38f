use Rattle.cube_text.proofs.UnitsReadBack.{units_read}
use Rattle.cube_text.proofs.units.units_read_back.Goals as goal

pub returns : goal.returns
returns c = units_read
