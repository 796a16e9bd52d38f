use Rattle.std.proofs.Common.{◌≡◌, drop}
use Rattle.cube_source.specs.Blocks.{bare}
use Rattle.cube_source.specs.Fresh as said
use Rattle.cube_source.proofs.fresh.is_repeated.Given as goal

abbrev pub invariant-objects : goal.invariant-objects
invariant-objects l = said.is_repeated (bare l.core) (drop l.object-index l.earlier) l.measure l.levels l.row.places ≡ said.is_repeated (bare l.core) l.earlier l.measure l.levels l.row.places
