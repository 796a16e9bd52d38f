use Rattle.std.proofs.Common.{◌≡◌, ℕ, ◌<◌, false}
use Rattle.cube_reason.specs.Found.{is_last}
use Rattle.cube_reason.specs.Searched.{visit_at}
use Rattle.cube_reason.proofs.finding.first_end.Given as goal

abbrev pub invariant-visits : goal.invariant-visits
invariant-visits l = (k : ℕ) → k < l.number → is_last l.start l.singles (visit_at l.visits k) ≡ false
