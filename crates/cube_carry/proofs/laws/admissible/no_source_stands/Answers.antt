use Rattle.cube_carry.proofs.Greatest.{no_source_stands}
use Rattle.cube_carry.proofs.laws.admissible.no_source_stands.Goals as goal

pub returns : goal.returns
returns c = no_source_stands
