use Rattle.std.proofs.Common.{◌≡◌}
use Rattle.cube_model.specs.Cubes.{same, together}
use Rattle.cube_source.specs.Blocks.{bare}
use Rattle.cube_source.specs.Keys.{key_from}
use Rattle.cube_source.proofs.places.together.Given as goal

abbrev pub invariant-dimensions : goal.invariant-dimensions
invariant-dimensions l = same (key_from l.core l.levels l.place l.number) (key_from l.core l.levels l.other l.number) ≡ together (bare l.core) l.levels l.place l.other
