use Rattle.cube_reason.proofs.Only.{answers_alone}
use Rattle.cube_reason.proofs.laws.answers_alone_are_admitted.Goals as goal

pub returns : goal.returns
returns c = answers_alone
