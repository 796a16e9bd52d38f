use Rattle.std.proofs.Common.{◌<◌, ℕ}
use Rattle.cube_model.specs.Dims.{measure_at}
use Rattle.cube_draft.specs.Kept.{IsMeasured}
use Rattle.cube_draft.proofs.shown.are_measured.Given as goal

abbrev pub invariant-loop-number : goal.invariant-loop-number
invariant-loop-number l = (k : ℕ) → k < l.number → IsMeasured l.table.header l.table.members.items l.table.decimals.items (measure_at l.fn.dims k)
