use Rattle.std.proofs.Common.{◌≡◌, ◌<◌, ◌+◌, ℕ, false, ◌&&◌, length, drop}
use Rattle.std.specs.Prelude.{slice_index_or}
use Rattle.cube_facts.specs.Flat.{parts, matches}
use Rattle.cube_facts.specs.Table.{row_at}
use Rattle.cube_facts.proofs.flat.mark_matching.Given as goal

abbrev pub invariant-parts : goal.invariant-parts
invariant-parts l = record {
  within : l.column + length (parts l.rest) ≡ l.width;
  same : (k : ℕ) → k < length l.kept → (slice_index_or l.kept k false && matches (parts l.rest) (drop l.column (row_at l.width l.fields (l.start + k)))) ≡ matches (parts l.line) (row_at l.width l.fields (l.start + k));
}

abbrev pub decreases-parts : goal.decreases-parts
decreases-parts l = length l.rest
