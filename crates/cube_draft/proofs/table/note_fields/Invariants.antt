use Rattle.std.proofs.Common.{◌≡◌, true, length}
use Rattle.csv.specs.Records.{fields_of}
use Rattle.cube_draft.proofs.Steps.{Noted}
use Rattle.cube_draft.proofs.table.note_fields.Given as goal

abbrev pub invariant-loop-place : goal.invariant-loop-place
invariant-loop-place l = (length l.decimals.items ≡ length l.members) × (length l.turned.items ≡ length l.members)
    × (l.sound ≡ true → Noted l.members l.fn.decimals.items l.decimals.items (fields_of l.row) l.place)
