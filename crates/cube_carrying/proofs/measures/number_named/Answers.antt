use Rattle.cube_carrying.proofs.Found.{some_place, no_place}
use Rattle.cube_carrying.proofs.measures.number_named.Goals as goal

pub returns-in-Some : goal.returns-in-Some
returns-in-Some c = some_place (λ m. m.name) c.args.name.now c.args.measures.now c.in-Some.number c.in-Some.ensures

pub returns-in-None : goal.returns-in-None
returns-in-None c = no_place (λ m. m.name) c.args.name.now c.args.measures.now c.in-None.ensures
