use Rattle.std.proofs.Common.{◌≡◌, ◌++◌, take}
use Rattle.cube_journal.specs.PublicText.{name_fields}
use Rattle.cube_journal.proofs.public.push_names.Given as goal

abbrev pub invariant-loop-i : goal.invariant-loop-i
invariant-loop-i l = l.text ≡ l.initial.text ++ name_fields (take l.i l.names)
