use Rattle.std.proofs.Common.{◌≡◌, ℕ, ◌<◌, ◌&&◌, true}
use Rattle.cube_carrying.specs.Places.{place_in}
use Rattle.cube_carrying.specs.Points.{has_facts, has_values}
use Rattle.cube_carrying.proofs.points.first_missing.Given as goal

abbrev pub invariant-places : goal.invariant-places
invariant-places g l = (k : ℕ) → k < l.place → (has_facts l.old l.new k (place_in l.old l.new k) && has_values l.old l.new k (place_in l.old l.new k)) ≡ true
