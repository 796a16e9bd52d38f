use Rattle.std.proofs.Common.{◌≡◌, ◌<◌, ℕ, true}
use Rattle.cube_draft.specs.Drafts.{is_governed}
use Rattle.cube_draft.proofs.accept.are_governed.Given as goal

abbrev pub invariant-loop-measure : goal.invariant-loop-measure
invariant-loop-measure l = (m : ℕ) → m < l.measure → is_governed l.policy m ≡ true
