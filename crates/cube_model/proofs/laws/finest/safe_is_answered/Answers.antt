use Rattle.cube_model.proofs.Leasts.{safe_is_answered}
use Rattle.cube_model.proofs.laws.finest.safe_is_answered.Goals as goal

pub returns : goal.returns
returns c = safe_is_answered
