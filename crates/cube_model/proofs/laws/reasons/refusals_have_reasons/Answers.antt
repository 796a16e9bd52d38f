use Rattle.cube_model.proofs.Reasoning.{refusals_have_reasons}
use Rattle.cube_model.proofs.laws.reasons.refusals_have_reasons.Goals as goal

pub returns : goal.returns
returns c = refusals_have_reasons
