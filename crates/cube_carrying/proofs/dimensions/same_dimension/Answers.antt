use Rattle.std.proofs.Common.{arith}
use Rattle.cube_carrying.proofs.Found.{dimension_below}
use Rattle.cube_carrying.proofs.dimensions.same_dimension.Goals as goal

pub dimension-requires : goal.dimension-requires
dimension-requires c =
    let below = dimension_below c.args.dims.now c.args.dimension.now c.requires in
    omega (arith, below, c.dimension_in-number.ensures)

pub overflow_cast-number : goal.overflow_cast-number
overflow_cast-number c =
    let below = dimension_below c.args.dims.now c.args.dimension.now c.requires in
    omega (arith, below, c.dimension_in-number.ensures, c.dimensions-rules.ensures.rules.few_dimensions)
