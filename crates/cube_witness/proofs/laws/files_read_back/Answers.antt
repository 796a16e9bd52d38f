use Rattle.cube_witness.proofs.Reread.{files_read_back}
use Rattle.cube_witness.proofs.laws.files_read_back.Goals as goal

pub returns : goal.returns
returns c = files_read_back
