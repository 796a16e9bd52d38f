use Rattle.std.proofs.Common.{rules, ◌<◌, length, arith}
use Rattle.cube_reason.proofs.Searches.{begun_by, searching_few, searching_more}
use Rattle.cube_reason.proofs.searching.search.Goals as goal

pub loop-at-init : goal.loop-at-init
loop-at-init c = begun_by c.args.joints.now c.args.start c.new-visits.result.items c.visit_once.new.visits.items c.in_ok-seen.seen.items c.visit_once.new.seen.items c.first_visit.result c.requires.start c.in_ok-seen.ensures c.new-visits.ensures.items c.first_visit.ensures c.in_ok-visit_once.ensures.visits c.in_ok-visit_once.ensures.seen

pub loop-at-smaller : goal.loop-at-smaller
loop-at-smaller c =
    let test : c.loop-at.at < length c.loop-at.visits.items = search rules in
    let few = searching_few c.args.joints.now c.args.start c.loop-at.at c.loop-at.visits.items c.loop-at.seen.items c.loop-at.invariant in
    omega (arith, test, few)

pub loop-at-preserved : goal.loop-at-preserved
loop-at-preserved c =
    let test : c.loop-at.at < length c.loop-at.visits.items = search rules in
    searching_more c.args.joints.now c.args.start c.loop-at.at c.loop-at.visits.items c.go_on.new.visits.items c.loop-at.seen.items c.go_on.new.seen.items test c.loop-at.invariant c.in_ok-go_on.ensures
