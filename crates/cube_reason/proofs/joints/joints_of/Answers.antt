use Rattle.cube_reason.proofs.Numbers.{place_tied}
use Rattle.cube_reason.proofs.joints.joints_of.Goals as goal

pub put_tie-requires : goal.put_tie-requires
put_tie-requires c = place_tied _ _ _ _ _ c.ties.invariant.long c.ties-test.true c.requires
