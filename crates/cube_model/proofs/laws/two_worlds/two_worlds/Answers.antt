use Rattle.cube_model.proofs.Worlds.{two_worlds}
use Rattle.cube_model.proofs.laws.two_worlds.two_worlds.Goals as goal

pub returns : goal.returns
returns c = two_worlds
