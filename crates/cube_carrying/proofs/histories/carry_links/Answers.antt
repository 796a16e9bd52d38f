use Rattle.std.proofs.Common.{◌<◌, ◌^◌, List, length, sym, subst}
use Rattle.cube_model.specs.declared.link.Link.{Link}
use Rattle.cube_model.specs.LinkLaws.{AreOfPlaces}
use Rattle.cube_carrying.proofs.Handed.{links_there, links_few}
use Rattle.cube_carrying.proofs.histories.carry_links.Goals as goal

pub fixed_cell-requires-clause-of_places : goal.fixed_cell-requires-clause-of_places
fixed_cell-requires-clause-of_places c = subst (λ (ls : List Link). AreOfPlaces (length c.args.crossing.now.new.now.shape.points) ls) (sym c.in_ok-links.ensures)
    (links_there c.args.crossing.now.old.now c.args.crossing.now.new.now c.args.crossing.now.old_policy.now c.args.crossing.now.new_policy.now c.args.state.now c.requires.crossing.given c.dims-old.ensures.rules c.dims-new.ensures.rules c.args.crossing.now.measure c.requires.crossing.measure c.requires.parity)

pub fixed_cell-requires-clause-few : goal.fixed_cell-requires-clause-few
fixed_cell-requires-clause-few c = subst (λ (ls : List Link). length ls < 2 ^ 32) (sym c.in_ok-links.ensures)
    (links_few c.args.crossing.now.old.now c.args.crossing.now.new.now c.args.crossing.now.old_policy.now c.args.crossing.now.new_policy.now c.args.state.now c.requires.crossing.given c.dims-old.ensures.rules c.dims-new.ensures.rules c.args.crossing.now.measure)
