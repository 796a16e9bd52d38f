use Rattle.std.proofs.Common.{◌≡◌, ◌<◌, ◌≤◌, ℕ, length}
use Rattle.cube_core.specs.Index.{taken_count}
use Rattle.cube_core.proofs.core_cube.Core.others_take_all.Given as goal

abbrev pub invariant-dimensions : goal.invariant-dimensions
invariant-dimensions l = (d : ℕ) → 1 ≤ d → d < l.number → taken_count l.self l.request d ≡ length l.self.shape.points
