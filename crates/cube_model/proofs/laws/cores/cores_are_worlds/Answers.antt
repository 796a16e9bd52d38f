use Rattle.cube_model.proofs.Filled.{cores_are_worlds}
use Rattle.cube_model.proofs.laws.cores.cores_are_worlds.Goals as goal

pub returns : goal.returns
returns c = cores_are_worlds
