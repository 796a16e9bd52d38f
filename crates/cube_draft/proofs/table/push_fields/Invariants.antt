use Rattle.std.proofs.Common.{◌≡◌, length}
use Rattle.csv.specs.Records.{fields_of}
use Rattle.cube_draft.proofs.Steps.{Pushed}
use Rattle.cube_draft.proofs.table.push_fields.Given as goal

abbrev pub invariant-loop-place : goal.invariant-loop-place
invariant-loop-place l = (length l.columns.items ≡ length l.members) × Pushed l.members (fields_of l.row) l.fn.columns.items l.columns.items l.place
