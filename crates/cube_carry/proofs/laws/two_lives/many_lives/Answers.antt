use Rattle.cube_carry.proofs.InTurn.{many_lives}
use Rattle.cube_carry.proofs.laws.two_lives.many_lives.Goals as goal

pub returns : goal.returns
returns c = many_lives
