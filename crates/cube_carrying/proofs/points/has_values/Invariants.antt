use Rattle.std.proofs.Common.{◌≡◌, ℕ, ◌<◌, true}
use Rattle.cube_carrying.specs.Points.{has_value}
use Rattle.cube_carrying.proofs.points.has_values.Given as goal

abbrev pub invariant-measures : goal.invariant-measures
invariant-measures g l = (k : ℕ) → k < l.measure → has_value l.old l.new l.place l.there k ≡ true
