use Rattle.cube_server.proofs.Likeness.{logs_are_alike}
use Rattle.cube_server.proofs.laws.logs_are_alike.Goals as goal

pub returns : goal.returns
returns c = logs_are_alike
