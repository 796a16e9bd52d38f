use Rattle.cube_model.proofs.Reasoned.{reason_refuses}
use Rattle.cube_model.proofs.laws.reasons.reason_refuses.Goals as goal

pub returns : goal.returns
returns c = reason_refuses
