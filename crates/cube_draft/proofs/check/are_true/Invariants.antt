use Rattle.std.proofs.Common.{◌<◌, ℕ}
use Rattle.cube_model.specs.Dims.{dimension_at}
use Rattle.cube_draft.specs.Kept.{IsKept}
use Rattle.cube_draft.proofs.check.are_true.Given as goal

abbrev pub invariant-loop-number : goal.invariant-loop-number
invariant-loop-number l = (k : ℕ) → k < l.number → IsKept l.table.header l.table.members.items l.table.fields.items l.table.rows (dimension_at l.fn.dims k)
