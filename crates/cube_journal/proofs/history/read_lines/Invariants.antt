use Rattle.std.proofs.Common.{◌≤◌, ◌+◌, length}
use Rattle.cube_journal.specs.Lines.{ended_lines}
use Rattle.cube_journal.proofs.Entries.{Reads}
use Rattle.cube_journal.proofs.history.read_lines.Given as goal

abbrev pub invariant-lines : goal.invariant-lines
invariant-lines l = record {
  reads : Reads l.dims l.policy l.places l.fn.version (ended_lines l.bytes) (ended_lines l.rest) l.history l.line l.holds;
  few : l.line + length l.rest ≤ length l.bytes + 2;
}

abbrev pub decreases-lines : goal.decreases-lines
decreases-lines l = length l.rest
