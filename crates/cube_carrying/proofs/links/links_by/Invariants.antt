use Rattle.std.proofs.Common.{◌≡◌, ◌≤◌, map, take, length}
use Rattle.cube_carrying.specs.Links.{link_by}
use Rattle.cube_carrying.proofs.links.links_by.Given as goal

abbrev pub invariant-links : goal.invariant-links
invariant-links l = (l.links ≡ map (link_by l.places) (take l.number l.colouring.kept)) × (l.number-end ≤ length l.colouring.kept)
