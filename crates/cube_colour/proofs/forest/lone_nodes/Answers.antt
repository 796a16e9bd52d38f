use Rattle.cube_colour.proofs.Starts.{one_more}
use Rattle.cube_colour.proofs.forest.lone_nodes.Goals as goal

pub places-preserved : goal.places-preserved
places-preserved c = one_more c.places.nodes.items c.push.new.self.items c.places.place c.places.invariant c.in_ok-push.ensures.items
