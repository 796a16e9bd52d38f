use Rattle.cube_advise.proofs.Holdings.{held_links_are_few}
use Rattle.cube_advise.proofs.laws.held_links_are_few.Goals as goal

pub returns : goal.returns
returns c = held_links_are_few
