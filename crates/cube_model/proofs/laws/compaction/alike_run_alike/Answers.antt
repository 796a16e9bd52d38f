use Rattle.cube_model.proofs.Alike.{alike_run_alike}
use Rattle.cube_model.proofs.laws.compaction.alike_run_alike.Goals as goal

pub returns : goal.returns
returns c = alike_run_alike
