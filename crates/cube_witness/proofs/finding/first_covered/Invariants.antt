use Rattle.std.proofs.Common.{◌≡◌, ℕ, ◌<◌, false}
use Rattle.cube_model.specs.Cubes.{covers}
use Rattle.cube_source.specs.Blocks.{bare}
use Rattle.cube_witness.proofs.finding.first_covered.Given as goal

abbrev pub invariant-places : goal.invariant-places
invariant-places l = (k : ℕ) → k < l.place → covers (bare l.core) l.cell k ≡ false
