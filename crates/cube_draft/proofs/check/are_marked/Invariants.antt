use Rattle.std.proofs.Common.{◌<◌, ℕ, length, slice_index_or}
use Rattle.cube_draft.specs.Kept.{IsMarked}
use Rattle.cube_draft.proofs.check.are_marked.Given as goal

abbrev pub invariant-loop-level : goal.invariant-loop-level
invariant-loop-level l = (k : ℕ) → k < l.level → (slice_index_or l.columns k 0 < length l.members) × IsMarked l.members (slice_index_or l.columns k 0)
