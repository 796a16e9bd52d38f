use Rattle.cube_model.specs.Runs.{by_rules}
use Rattle.cube_model.proofs.Housed.{other_worlds_are_likewise}
use Rattle.cube_model.proofs.laws.rooms.other_worlds_are_likewise.Goals as goal

pub returns : goal.returns
returns c = other_worlds_are_likewise by_rules
