use Rattle.cube_carrying.proofs.Found.{some_place, no_place}
use Rattle.cube_carrying.proofs.dimensions.number_named.Goals as goal

pub returns-in-Some : goal.returns-in-Some
returns-in-Some c = some_place (λ d. d.name) c.args.name.now c.args.dimensions.now c.in-Some.number c.in-Some.ensures

pub returns-in-None : goal.returns-in-None
returns-in-None c = no_place (λ d. d.name) c.args.name.now c.args.dimensions.now c.in-None.ensures
