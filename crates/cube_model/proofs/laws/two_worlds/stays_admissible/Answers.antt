use Rattle.cube_model.proofs.Worlds.{stays_admissible}
use Rattle.cube_model.proofs.laws.two_worlds.stays_admissible.Goals as goal

pub returns : goal.returns
returns c = stays_admissible
