use Rattle.cube_carry.proofs.Itself.{carried_to_itself}
use Rattle.cube_carry.proofs.laws.admissible.carried_to_itself.Goals as goal

pub returns : goal.returns
returns c = carried_to_itself
