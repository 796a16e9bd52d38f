use Rattle.std.proofs.Common.{◌≤◌, length, arith, ap, sym}
use Rattle.cube_carrying.proofs.Found.{no_levels}
use Rattle.cube_carrying.proofs.dimensions.has_levels.Goals as goal

pub returns-then-number-dimensions : goal.returns-then-number-dimensions
returns-then-number-dimensions c =
    let size = ap length c.dimensions-dimensions.ensures.dimensions in
    let beyond : length c.args.dims.now.dimensions ≤ c.dimension_in-number.result = omega (arith, size, c.if-number-dimensions.true) in
    sym (no_levels c.args.dims.now c.args.dimension.now c.dimension_in-number.result c.dimension_in-number.ensures beyond c.levels-levels.ensures.rules.has_levels)
