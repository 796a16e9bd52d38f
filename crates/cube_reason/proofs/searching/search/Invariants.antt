use Rattle.std.proofs.Common.{◌-◌, ◌*◌, length}
use Rattle.cube_reason.proofs.Searches.{Searching}
use Rattle.cube_reason.proofs.searching.search.Given as goal

abbrev pub invariant-loop-at : goal.invariant-loop-at
invariant-loop-at l = Searching l.joints l.start l.at l.visits.items l.seen.items

abbrev pub decreases-loop-at : goal.decreases-loop-at
decreases-loop-at l = 2 * length l.joints - l.at
