use Rattle.std.proofs.Common.{◌≡◌, replicate, None}
use Rattle.cube_source.proofs.table.no_slots.Given as goal

abbrev pub invariant-slots : goal.invariant-slots
invariant-slots l = l.slots.items ≡ replicate l._slot None
