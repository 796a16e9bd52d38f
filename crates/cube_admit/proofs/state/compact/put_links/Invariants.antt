use Rattle.std.proofs.Common.{◌≡◌, ◌++◌, map, take, length, ◌≤◌}
use Rattle.cube_model.specs.declared.entry.Entry.TheVariants as entries
use Rattle.cube_admit.proofs.state.compact.put_links.Given as goal

abbrev pub invariant-links : goal.invariant-links
invariant-links l = (l.history ≡ l.initial.history ++ map (entries.Linked l.measure) (take l.number l.colouring.kept)) × (l.number-end ≤ length l.colouring.kept)
