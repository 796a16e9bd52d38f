use Rattle.cube_model.proofs.Freshly.{not_fresh_is_answered}
use Rattle.cube_model.proofs.laws.verdicts.not_fresh_is_answered.Goals as goal

pub returns : goal.returns
returns c = not_fresh_is_answered
