use Rattle.cube_witness.proofs.Spreads.{moves_are_changes}
use Rattle.cube_witness.proofs.laws.moves_are_changes.Goals as goal

pub returns : goal.returns
returns c = moves_are_changes
