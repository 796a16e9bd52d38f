use Rattle.cube_model.proofs.FixedPlaces.{pair_follows}
use Rattle.cube_model.proofs.laws.links.pair_follows.Goals as goal

pub returns : goal.returns
returns c = pair_follows
