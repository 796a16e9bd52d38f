use Rattle.std.proofs.Common.{◌≡◌, ℕ, ◌<◌, false, ◌&&◌}
use Rattle.cube_model.specs.Cubes.{covers}
use Rattle.cube_model.specs.Protection.{in_slice}
use Rattle.cube_source.specs.Blocks.{bare}
use Rattle.cube_source.proofs.protecting.covers_slice.Given as goal

abbrev pub invariant-places : goal.invariant-places
invariant-places l = (k : ℕ) → k < l.place → (covers (bare l.core) l.cell k && in_slice (bare l.core) l.object k) ≡ false
