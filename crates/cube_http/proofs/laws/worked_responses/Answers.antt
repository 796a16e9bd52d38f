use Rattle.std.proofs.Common.{refl}
use Rattle.std.specs.Fmt.{digits}
use Rattle.cube_http.specs.Responses.{phrase}
use Rattle.cube_http.proofs.laws.worked_responses.Goals as goal

pub returns-clause-areas : goal.returns-clause-areas
unfolding digits phrase
returns-clause-areas c = refl

pub returns-clause-refused : goal.returns-clause-refused
unfolding digits phrase
returns-clause-refused c = refl
