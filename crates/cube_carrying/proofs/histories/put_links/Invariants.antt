use Rattle.std.proofs.Common.{◌≡◌, ◌++◌, map, take}
use Rattle.cube_model.specs.declared.entry.Entry.TheVariants as entries
use Rattle.cube_carrying.proofs.histories.put_links.Given as goal

abbrev pub invariant-links : goal.invariant-links
invariant-links l = l.history ≡ l.initial.history ++ map (entries.Linked l.measure) (take l.link-index l.link-items)
