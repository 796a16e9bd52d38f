use Rattle.cube_engine.proofs.KeepsAll.{compaction_keeps_all}
use Rattle.cube_engine.proofs.laws.compaction_keeps_all.Goals as goal

pub returns : goal.returns
returns c = compaction_keeps_all
