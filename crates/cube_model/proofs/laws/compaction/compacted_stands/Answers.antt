use Rattle.cube_model.proofs.Compacts.{compacted_stands}
use Rattle.cube_model.proofs.laws.compaction.compacted_stands.Goals as goal

pub returns : goal.returns
returns c = compacted_stands
