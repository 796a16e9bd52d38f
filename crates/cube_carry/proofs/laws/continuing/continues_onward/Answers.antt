use Rattle.cube_carry.proofs.Onwards.{onward_law}
use Rattle.cube_carry.proofs.laws.continuing.continues_onward.Goals as goal

pub returns : goal.returns
returns c = onward_law
