use Rattle.cube_model.proofs.FixedPlaces.{free_from_fewer}
use Rattle.cube_model.proofs.laws.links.free_from_fewer.Goals as goal

pub returns : goal.returns
returns c = free_from_fewer
