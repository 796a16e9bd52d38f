use Rattle.std.proofs.Common.{◌≡◌, ℕ, ◌<◌, ◌≤◌, false, cond, length, get_or}
use Rattle.cube_source.specs.Bounds.{raised}
use Rattle.cube_source.proofs.slices.raise.Given as goal

abbrev pub invariant-places : goal.invariant-places
invariant-places l = record {
  long : length l.bounds ≡ length l.initial.bounds;
  done : (k : ℕ) → k < l.place → get_or l.bounds k 0 ≡ raised (get_or l.initial.bounds k 0) (cond (get_or l.slice k false) l.limit 0);
  rest : (k : ℕ) → l.place ≤ k → get_or l.bounds k 0 ≡ get_or l.initial.bounds k 0;
}
