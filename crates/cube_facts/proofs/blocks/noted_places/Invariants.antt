use Rattle.std.proofs.Common.{ℕ, ◌≡◌, ◌<◌, length, get_or}
use Rattle.cube_facts.specs.Filling.{IsNoted}
use Rattle.cube_facts.specs.declared.blocks.Held.{Held}
use Rattle.cube_facts.proofs.blocks.noted_places.Given as goal

abbrev pub invariant-loop-place : goal.invariant-loop-place
invariant-loop-place l = record {
  long : length l.noted ≡ 128;
  noted : (k : ℕ) (d : Held) → k < l.place → IsNoted l.points (get_or l.block k d).leaves.items (get_or l.noted k 0);
}
