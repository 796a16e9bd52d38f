use Rattle.std.proofs.Common.{ap, ◌∙◌}
use Rattle.cube_model.specs.Cubes.{are_levels}
use Rattle.cube_model.specs.Dims.{plains}
use Rattle.cube_source.proofs.Keys.{finest_levels}
use Rattle.cube_source.proofs.listing.finest_cell.Goals as goal

pub key_of-requires-clause-levels : goal.key_of-requires-clause-levels
key_of-requires-clause-levels c = ap (are_levels (plains c.args.core.now.dims)) (c.as_slice.ensures ∙ c.in_ok-levels.ensures) ∙ finest_levels (plains c.args.core.now.dims)
