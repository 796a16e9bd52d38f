use Rattle.cube_model.proofs.Housed.{one_room_is_plain, rooms_are_by_themselves, other_worlds_are_likewise}
use Rattle.cube_engine.specs.Steps.{by_words}
use Rattle.cube_engine.proofs.laws.rooms_in_words.Goals as goal

pub returns-clause-plain : goal.returns-clause-plain
returns-clause-plain c = λ s. one_room_is_plain (by_words s)

pub returns-clause-apart : goal.returns-clause-apart
returns-clause-apart c = λ s. rooms_are_by_themselves (by_words s)

pub returns-clause-likewise : goal.returns-clause-likewise
returns-clause-likewise c = λ s. other_worlds_are_likewise (by_words s)
