use Rattle.std.proofs.Common.{◌≡◌, drop}
use Rattle.cube_model.specs.Cubes.{same, key_at}
use Rattle.cube_source.specs.Blocks.{bare}
use Rattle.cube_source.specs.Keys.{key_from}
use Rattle.cube_source.proofs.places.has_key.Given as goal

abbrev pub invariant-dimensions : goal.invariant-dimensions
invariant-dimensions l = same (key_from l.core l.levels l.place l.number) (drop l.number l.key) ≡ same (key_at (bare l.core) l.levels l.place) l.key
