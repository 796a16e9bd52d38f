use Rattle.std.proofs.Common.{◌≡◌, length}
use Rattle.cube_facts.specs.Tags.{HasTags}
use Rattle.cube_facts.proofs.tags.leaf_tags.Given as goal

abbrev pub invariant-loop-leaf : goal.invariant-loop-leaf
invariant-loop-leaf l = record {
  long : length l.tags ≡ l.leaf;
  has : HasTags l.dimension l.tags;
}
