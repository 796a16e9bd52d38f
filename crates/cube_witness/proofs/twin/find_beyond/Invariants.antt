use Rattle.std.proofs.Common.{◌≡◌, ℕ, ◌<◌, false, get_or, pos}
use Rattle.cube_witness.specs.TwinFile.{facts_at, is_beyond}
use Rattle.cube_witness.proofs.twin.find_beyond.Given as goal

abbrev pub invariant-places : goal.invariant-places
invariant-places l = (k : ℕ) → k < l.place → is_beyond (facts_at l.shape k) (get_or l.values k (pos 0)) ≡ false
