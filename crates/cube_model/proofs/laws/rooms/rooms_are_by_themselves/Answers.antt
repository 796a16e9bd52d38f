use Rattle.cube_model.specs.Runs.{by_rules}
use Rattle.cube_model.proofs.Housed.{rooms_are_by_themselves}
use Rattle.cube_model.proofs.laws.rooms.rooms_are_by_themselves.Goals as goal

pub returns : goal.returns
returns c = rooms_are_by_themselves by_rules
