use Rattle.std.proofs.Common.{◌≡◌, ◌<◌, ◌||◌, ℕ, true}
use Rattle.cube_draft.specs.Drafts.{is_varied, is_plainly_above}
use Rattle.cube_draft.proofs.apart.stands_apart.Given as goal

abbrev pub invariant-loop-level : goal.invariant-loop-level
invariant-loop-level l = (k : ℕ) → 0 < k → k < l.level → (is_varied l.paths k || is_plainly_above l.paths k) ≡ true
