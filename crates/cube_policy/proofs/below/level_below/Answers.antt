use Rattle.std.proofs.Common.{ap, ◌∙◌}
use Rattle.cube_model.specs.Dims.{dimension_at}
use Rattle.cube_policy.proofs.Found.{found_level}
use Rattle.cube_policy.proofs.below.level_below.Goals as goal

pub returns-in-Some : goal.returns-in-Some
returns-in-Some c =
    found_level c.args.below.now (dimension_at c.args.dims.now c.args.d) c.name.result.now c.as_slice.result.now c.levels.result.now c.in-Some.named.now c.level_in.result c.unwrap_or.result
    (c.name.ensures.name ∙ ap (λ d. d.name) c.dimension-2.ensures.dimension)
    (c.levels.ensures.levels ∙ ap (λ d. d.levels) c.dimension.ensures.dimension)
    c.in-Some.ensures c.as_slice.ensures c.level_in.ensures c.unwrap_or.ensures
