use Rattle.cube_carry.proofs.Carried.{carried_is_admissible}
use Rattle.cube_carry.proofs.laws.admissible.carried_is_admissible.Goals as goal

pub returns : goal.returns
returns c = carried_is_admissible
