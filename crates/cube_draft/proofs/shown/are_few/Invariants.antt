use Rattle.std.proofs.Common.{◌<◌, ◌≤◌, ℕ, length}
use Rattle.cube_draft.specs.Kept.{IsAlike}
use Rattle.cube_draft.proofs.shown.are_few.Given as goal

abbrev pub invariant-loop-row : goal.invariant-loop-row
invariant-loop-row l = (length l.points.firsts.items ≤ 65536) × ((k : ℕ) → k < l.row → IsAlike l.table.fields.items l.places l.points.firsts.items k)
