use Rattle.cube_model.proofs.Worlds.{later_changes}
use Rattle.cube_model.proofs.laws.two_worlds.later_changes.Goals as goal

pub returns : goal.returns
returns c = later_changes
