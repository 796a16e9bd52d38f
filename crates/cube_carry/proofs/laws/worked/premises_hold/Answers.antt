use Rattle.cube_carry.proofs.Small.{march_lives}
use Rattle.cube_carry.proofs.laws.worked.premises_hold.Goals as goal

pub returns : goal.returns
returns c = march_lives
