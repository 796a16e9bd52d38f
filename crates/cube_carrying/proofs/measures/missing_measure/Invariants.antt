use Rattle.std.proofs.Common.{◌≡◌, ℕ, ◌<◌, true}
use Rattle.cube_carry.specs.Continues.{has_measure}
use Rattle.cube_carry.specs.Names.{named}
use Rattle.cube_carrying.proofs.measures.missing_measure.Given as goal

abbrev pub invariant-each : goal.invariant-each
invariant-each l = (k : ℕ) → k < l.measure → has_measure (named l.old l.old_policy) (named l.new l.new_policy) k ≡ true
