use Rattle.cube_model.proofs.Worlds.{changes_of_more}
use Rattle.cube_model.proofs.laws.two_worlds.changes_of_more.Goals as goal

pub returns : goal.returns
returns c = changes_of_more
