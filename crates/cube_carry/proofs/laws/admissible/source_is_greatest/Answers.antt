use Rattle.cube_carry.proofs.Greatest.{source_is_greatest}
use Rattle.cube_carry.proofs.laws.admissible.source_is_greatest.Goals as goal

pub returns : goal.returns
returns c = source_is_greatest
