use Rattle.cube_model.proofs.Left.{passed_brings_nothing}
use Rattle.cube_model.proofs.laws.compaction.passed_brings_nothing.Goals as goal

pub returns : goal.returns
returns c = passed_brings_nothing
