use Rattle.std.proofs.Common.{◌≡◌, drop}
use Rattle.cube_source.specs.Containing as said
use Rattle.cube_source.proofs.containing.is_contained.Given as goal

abbrev pub invariant-objects : goal.invariant-objects
invariant-objects l = said.is_contained (drop l.other-index l.earlier) l.object ≡ said.is_contained l.earlier l.object
