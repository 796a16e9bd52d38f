use Rattle.cube_carry.proofs.Cores.{cores_are_named}
use Rattle.cube_carry.proofs.laws.admissible.cores_are_named.Goals as goal

pub returns : goal.returns
returns c = cores_are_named
