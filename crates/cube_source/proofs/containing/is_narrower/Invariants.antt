use Rattle.std.proofs.Common.{◌≡◌, drop}
use Rattle.cube_source.specs.Containing as said
use Rattle.cube_source.proofs.containing.is_narrower.Given as goal

abbrev pub invariant-slice : goal.invariant-slice
invariant-slice l = said.is_narrower l.object.slice (drop l.within-index l.wide.slice) ≡ said.is_narrower l.object.slice l.wide.slice
