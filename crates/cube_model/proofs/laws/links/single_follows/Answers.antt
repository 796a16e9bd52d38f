use Rattle.cube_model.proofs.FixedPlaces.{single_follows}
use Rattle.cube_model.proofs.laws.links.single_follows.Goals as goal

pub returns : goal.returns
returns c = single_follows
