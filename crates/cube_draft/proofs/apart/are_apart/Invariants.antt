use Rattle.std.proofs.Common.{◌<◌, ◌≤◌, ℕ, length}
use Rattle.cube_model.specs.Dims.{dimension_at}
use Rattle.cube_draft.specs.Drafts.{StandsApart}
use Rattle.cube_draft.proofs.apart.are_apart.Given as goal

abbrev pub invariant-loop-number : goal.invariant-loop-number
invariant-loop-number l = (k : ℕ) → length l.choices.dimensions ≤ k → k < l.number → StandsApart (dimension_at l.fn.dims k)
