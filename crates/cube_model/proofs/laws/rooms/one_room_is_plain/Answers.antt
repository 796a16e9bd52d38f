use Rattle.cube_model.specs.Runs.{by_rules}
use Rattle.cube_model.proofs.Housed.{one_room_is_plain}
use Rattle.cube_model.proofs.laws.rooms.one_room_is_plain.Goals as goal

pub returns : goal.returns
returns c = one_room_is_plain by_rules
