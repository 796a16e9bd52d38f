use Rattle.cube_carry.proofs.Lives.{two_lives}
use Rattle.cube_carry.proofs.laws.two_lives.two_lives.Goals as goal

pub returns : goal.returns
returns c = two_lives
