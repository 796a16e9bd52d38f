use Rattle.std.proofs.Common.{◌≡◌, length}
use Rattle.cube_draft.specs.Kept.{Begins}
use Rattle.cube_draft.proofs.table.read_columns.Given as goal

abbrev pub invariant-loop-pass : goal.invariant-loop-pass
invariant-loop-pass l = Begins l.fn.bytes l.header × (length l.decimals.items ≡ length l.members.items)
