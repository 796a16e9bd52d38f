use Rattle.cube_model.proofs.Freshly.{full_is}
use Rattle.cube_model.proofs.laws.verdicts.full_is.Goals as goal

pub returns : goal.returns
returns c = full_is
