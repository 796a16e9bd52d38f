use Rattle.std.proofs.Common.{refl}
use Rattle.cube_reason.proofs.Numbers.{place_tied}
use Rattle.cube_reason.proofs.Singles.{singles_start, singles_more}
use Rattle.cube_reason.proofs.finding.singles_of.Goals as goal

pub ties-init : goal.ties-init
ties-init c = singles_start c.args.many c.in_ok-singles.singles.items c.in_ok-singles.ensures

pub put_single-requires : goal.put_single-requires
put_single-requires c = place_tied _ _ _ _ _ c.ties.invariant.long c.ties-test.true c.requires

pub ties-preserved : goal.ties-preserved
ties-preserved c = singles_more c.args.many c.ties.tie-index c.args.ties.now _ c.ties.singles.items c.put_single.new.singles.items c.ties-test.true (place_tied _ _ _ _ _ refl c.ties-test.true c.requires) c.put_single.ensures c.ties.invariant
