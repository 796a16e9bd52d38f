use Rattle.std.proofs.Common.{◌≡◌, drop}
use Rattle.cube_query.specs.Reading.{word_in}
use Rattle.cube_query.proofs.cursor.Cursor.word.Given as goal

abbrev pub invariant-loop-byte : goal.invariant-loop-byte
invariant-loop-byte l = (l.self.size ≡ l.initial.self.size) × (word_in l.self.size (drop l.byte-index l.word) l.self.rest ≡ word_in l.initial.self.size l.word l.initial.self.rest)
