use Rattle.std.proofs.Common.{◌≡◌, [], replicate}
use Rattle.cube_reason.proofs.joints.no_joints.Given as goal

abbrev pub invariant-places : goal.invariant-places
invariant-places l = l.joints.items ≡ replicate l._place []
