use Rattle.cube_model.proofs.Compacts.{compacted_runs_alike}
use Rattle.cube_model.proofs.laws.compaction.compacted_runs_alike.Goals as goal

pub returns : goal.returns
returns c = compacted_runs_alike
