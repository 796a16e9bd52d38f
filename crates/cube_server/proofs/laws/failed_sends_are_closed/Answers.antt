use Rattle.cube_server.proofs.Closings.{fails_last}
use Rattle.cube_server.proofs.laws.failed_sends_are_closed.Goals as goal

pub returns : goal.returns
returns c = fails_last
