use Rattle.cube_model.proofs.Keeps.{unkept_is}
use Rattle.cube_model.proofs.laws.two_worlds.unkept_is.Goals as goal

pub returns : goal.returns
returns c = unkept_is
