use Rattle.std.specs.List.{list_any}
use Rattle.std.proofs.Common.{◌≡◌, drop}
use Rattle.cube_source.proofs.Among.{stands}
use Rattle.cube_source.proofs.protecting.stands_under.Given as goal

abbrev pub invariant-objects : goal.invariant-objects
invariant-objects l = list_any (stands l.core l.measure l.cell) (drop l.object-index l.objects) ≡ list_any (stands l.core l.measure l.cell) l.objects
