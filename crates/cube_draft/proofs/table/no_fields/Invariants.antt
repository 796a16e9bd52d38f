use Rattle.std.proofs.Common.{◌≡◌, ℕ, length, slice_index_or, []}
use Rattle.cube_draft.proofs.table.no_fields.Given as goal

abbrev pub invariant-loop-place : goal.invariant-loop-place
invariant-loop-place l = (length l.columns.items ≡ l.place) × ((k : ℕ) → slice_index_or l.columns.items k [] ≡ [])
