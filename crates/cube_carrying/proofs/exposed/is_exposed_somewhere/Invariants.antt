use Rattle.std.proofs.Common.{◌≡◌, ℕ, ◌<◌, false}
use Rattle.cube_carrying.specs.Exposed.{is_exposed_at}
use Rattle.cube_carrying.proofs.exposed.is_exposed_somewhere.Given as goal

abbrev pub invariant-places : goal.invariant-places
invariant-places l = (k : ℕ) → k < l.place → is_exposed_at l.crossing.old.now l.object l.crossing.new.now l.crossing.new_policy.now.objects l.crossing.measure l.levels l.crossing.places.now k ≡ false
