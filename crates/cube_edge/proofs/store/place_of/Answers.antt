use Rattle.std.proofs.Common.{◌∙◌, ap}
use Rattle.std.specs.Prelude.{is_some}
use Rattle.cube_edge.proofs.Holding.{held_found}
use Rattle.cube_edge.proofs.store.place_of.Goals as goal

pub returns-clause-held : goal.returns-clause-held
returns-clause-held c = ap is_some c.position_of.ensures.first ∙ held_found c.args.held.now c.args.log
