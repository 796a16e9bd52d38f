use Rattle.std.proofs.Common.{length, refl}
use Rattle.cube_colour.proofs.Starts.{mark_at}
use Rattle.cube_colour.proofs.forest.mark.Goals as goal

pub guards-preserved : goal.guards-preserved
guards-preserved c = mark_at c.args.guarded.now c.guards.nodes _ (length c.args.nodes.now) c.guards.place-index c.guards-test.true c.requires.guarded c.guards.invariant refl
