use Rattle.cube_made.proofs.QueriesRead.{queries_are_read}
use Rattle.cube_made.proofs.laws.queries_are_read.Goals as goal

pub returns : goal.returns
returns c = queries_are_read
