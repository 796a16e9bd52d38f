use Rattle.std.proofs.Common.{◌≡◌, length}
use Rattle.cube_journal.specs.Recovery.{fields, numbers_of}
use Rattle.cube_journal.proofs.Fields.{read_behind}
use Rattle.cube_journal.proofs.reading.read_numbers.Given as goal

abbrev pub invariant-fields : goal.invariant-fields
invariant-fields l = numbers_of (fields l.text) ≡ read_behind l.numbers (numbers_of (fields l.rest))

abbrev pub decreases-fields : goal.decreases-fields
decreases-fields l = length l.rest
