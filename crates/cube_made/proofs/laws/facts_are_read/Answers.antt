use Rattle.cube_made.proofs.FactsRead.{facts_are_read}
use Rattle.cube_made.proofs.laws.facts_are_read.Goals as goal

pub returns : goal.returns
returns c = facts_are_read
