use Rattle.std.proofs.Common.{◌≡◌, ◌+◌, ◌≤◌, drop}
use Rattle.cube_notes.specs.Lines.{ends_behind, line_behind}
use Rattle.cube_notes.proofs.lines.line_behind.Given as goal

abbrev pub invariant-loop-byte : goal.invariant-loop-byte
invariant-loop-byte l = (l.line + ends_behind l.before (drop l.byte-index l.front) ≡ line_behind l.front) × (l.line ≤ 1 + l.byte-index)
