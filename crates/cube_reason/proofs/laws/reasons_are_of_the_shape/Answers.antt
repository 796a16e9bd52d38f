use Rattle.cube_reason.proofs.Only.{of_the_shape}
use Rattle.cube_reason.proofs.laws.reasons_are_of_the_shape.Goals as goal

pub returns : goal.returns
returns c = of_the_shape
