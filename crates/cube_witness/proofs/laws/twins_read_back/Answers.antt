use Rattle.cube_witness.proofs.Carried.{twins_read_back}
use Rattle.cube_witness.proofs.laws.twins_read_back.Goals as goal

pub returns : goal.returns
returns c = twins_read_back
