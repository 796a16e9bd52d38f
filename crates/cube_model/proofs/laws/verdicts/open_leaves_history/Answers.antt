use Rattle.cube_model.proofs.Freshly.{open_leaves_history}
use Rattle.cube_model.proofs.laws.verdicts.open_leaves_history.Goals as goal

pub returns : goal.returns
returns c = open_leaves_history
