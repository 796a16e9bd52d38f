use Rattle.std.proofs.Common.{◌∙◌, length, sym, ap}
use Rattle.cube_model.specs.Dims.{Dims}
use Rattle.cube_advise.proofs.Listing.{levels_long}
use Rattle.cube_advise.proofs.lone.push_lone.Goals as goal

pub push_line-requires-clause-levels : goal.push_line-requires-clause-levels
push_line-requires-clause-levels c = levels_long c.args.core.now.dims c.args.levels.now c.requires.levels ∙ ap (λ (s : Dims). length s.dimensions) (sym c.dims.ensures.dims)
