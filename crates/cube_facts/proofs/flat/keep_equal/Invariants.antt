use Rattle.std.proofs.Common.{◌≡◌, ◌<◌, ◌≤◌, ◌+◌, ◌*◌, ℕ, false, ◌&&◌}
use Rattle.std.specs.Prelude.{◌==◌, slice_index_or}
use Rattle.cube_facts.proofs.flat.keep_equal.Given as goal

abbrev pub invariant-loop-row : goal.invariant-loop-row
invariant-loop-row l = record {
  done : (k : ℕ) → k < l.row → slice_index_or l.kept k false ≡ (slice_index_or l.initial.kept k false && (slice_index_or l.numbers ((l.start + k) * l.width + l.column) 0 == l.wanted));
  rest : (k : ℕ) → l.row ≤ k → slice_index_or l.kept k false ≡ slice_index_or l.initial.kept k false;
}
