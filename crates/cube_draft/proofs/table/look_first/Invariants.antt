use Rattle.std.proofs.Common.{◌≡◌, length}
use Rattle.cube_draft.proofs.table.look_first.Given as goal

abbrev pub invariant-loop : goal.invariant-loop
invariant-loop l = (length l.decimals.items ≡ length l.marks) × (length l.turned.items ≡ length l.marks)
