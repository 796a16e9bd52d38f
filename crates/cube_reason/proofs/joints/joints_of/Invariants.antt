use Rattle.std.proofs.Common.{take}
use Rattle.cube_reason.specs.Tied.{AreJoints}
use Rattle.cube_reason.proofs.joints.joints_of.Given as goal

abbrev pub invariant-ties : goal.invariant-ties
invariant-ties l = AreJoints l.many (take l.tie-index l.ties) l.joints.items
