use Rattle.std.proofs.Common.{◌≡◌, drop}
use Rattle.cube_source.specs.Blocks.{bare}
use Rattle.cube_carrying.specs.Shields as said
use Rattle.cube_carrying.proofs.slices.any_over.Given as goal

abbrev pub invariant-objects : goal.invariant-objects
invariant-objects l = said.is_shielded_over (bare l.core) (drop l.object-index l.objects) l.measure l.levels l.place ≡ said.is_shielded_over (bare l.core) l.objects l.measure l.levels l.place
