use Rattle.cube_made.proofs.DimsRead.{dims_are_read}
use Rattle.cube_made.proofs.laws.dims_are_read.Goals as goal

pub returns : goal.returns
returns c = dims_are_read
