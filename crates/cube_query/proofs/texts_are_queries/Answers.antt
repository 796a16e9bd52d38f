use Rattle.cube_query.proofs.Fronts.{longest_front}
use Rattle.cube_query.proofs.Parts.{begun_is_prefix}
use Rattle.cube_query.proofs.Wholes.{at_most_one, reads_as_said}
use Rattle.cube_query.proofs.texts_are_queries.Goals as goal

pub returns-clause-longest : goal.returns-clause-longest
returns-clause-longest c = longest_front

pub returns-clause-begun : goal.returns-clause-begun
returns-clause-begun c = begun_is_prefix

pub returns-clause-one : goal.returns-clause-one
returns-clause-one c = at_most_one

pub returns-clause-read : goal.returns-clause-read
returns-clause-read c = reads_as_said
