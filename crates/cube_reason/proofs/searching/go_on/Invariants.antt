use Rattle.cube_reason.proofs.Searches.{Going}
use Rattle.cube_reason.proofs.searching.go_on.Given as goal

abbrev pub invariant-joints : goal.invariant-joints
invariant-joints l = Going l.joints l.at l.joint-index l.initial.visits.items l.visits.items l.seen.items
