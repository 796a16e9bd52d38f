use Rattle.std.proofs.Common.{refl}
use Rattle.cube_reason.proofs.Numbers.{own_more}
use Rattle.cube_reason.proofs.ties.tie_own.Goals as goal

pub links-preserved : goal.links-preserved
links-preserved c = own_more _ _ _ _ _ _ _ c.links-test.true refl c.in_ok-push.ensures.items c.links.invariant
