use Rattle.std.proofs.Common.{ℕ, ◌≡◌, ◌<◌, [], length, get_or}
use Rattle.cube_model.specs.Dims.{NamedDimension}
use Rattle.cube_facts.specs.Tags.{HasTags}
use Rattle.cube_facts.proofs.tags.all_tags.Given as goal

abbrev pub invariant-loop-dimension : goal.invariant-loop-dimension
invariant-loop-dimension l = record {
  long : length l.tags ≡ l.dimension-index;
  each : (i : ℕ) (d : NamedDimension) → i < length l.tags → HasTags (get_or l.dims.dimensions i d) (get_or l.tags i []);
}
