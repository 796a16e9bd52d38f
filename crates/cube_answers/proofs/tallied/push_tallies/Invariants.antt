use Rattle.std.proofs.Common.{◌≡◌, ◌++◌, drop, flat_map}
use Rattle.cube_answers.specs.Sums.{lines_of_tally}
use Rattle.cube_answers.proofs.tallied.push_tallies.Given as goal

abbrev pub invariant-loop-tally : goal.invariant-loop-tally
invariant-loop-tally l = l.text ++ flat_map (lines_of_tally l.dims l.points l.request) (drop l.tally-index l.tallies) ≡ l.fn.text ++ flat_map (lines_of_tally l.dims l.points l.request) l.tallies
