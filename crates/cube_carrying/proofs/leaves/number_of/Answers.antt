use Rattle.std.proofs.Common.{◌∙◌}
use Rattle.cube_model.specs.Cubes.{distinct}
use Rattle.cube_carrying.proofs.Found.{found_place, found_no_place}
use Rattle.cube_carrying.proofs.leaves.number_of.Goals as goal

pub returns-in-Some : goal.returns-in-Some
returns-in-Some c = found_place c.args.name.now (distinct c.args.names.now) c.in-Some.number c.in-Some.ensures

pub returns-in-None : goal.returns-in-None
returns-in-None c = c.count.ensures ∙ found_no_place c.args.name.now (distinct c.args.names.now) c.in-None.ensures
