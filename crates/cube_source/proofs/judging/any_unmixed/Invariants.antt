use Rattle.std.proofs.Common.{◌≡◌, ℕ, ◌<◌, false, not, ◌&&◌, get_or}
use Rattle.cube_model.specs.Protection.{in_slice}
use Rattle.cube_source.specs.Blocks.{bare}
use Rattle.cube_source.proofs.judging.any_unmixed.Given as goal

abbrev pub invariant-places : goal.invariant-places
invariant-places l = (k : ℕ) → k < l.place → (not (get_or l.mixed k false) && in_slice (bare l.core) l.object k) ≡ false
