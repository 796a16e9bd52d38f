use Rattle.cube_model.proofs.Keeps.{kept_is_open}
use Rattle.cube_model.proofs.laws.two_worlds.kept_is_open.Goals as goal

pub returns : goal.returns
returns c = kept_is_open
