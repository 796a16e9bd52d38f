use Rattle.std.proofs.Common.{◌≡◌, ◌++◌, take}
use Rattle.cube_journal.specs.PublicText.{number_fields}
use Rattle.cube_journal.proofs.public.push_numbers.Given as goal

abbrev pub invariant-loop-i : goal.invariant-loop-i
invariant-loop-i l = l.text ≡ l.initial.text ++ number_fields (take l.i l.numbers)
