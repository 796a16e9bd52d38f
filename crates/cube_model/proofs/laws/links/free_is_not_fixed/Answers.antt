use Rattle.cube_model.proofs.FixedPlaces.{free_is_not_fixed}
use Rattle.cube_model.proofs.laws.links.free_is_not_fixed.Goals as goal

pub returns : goal.returns
returns c = free_is_not_fixed
