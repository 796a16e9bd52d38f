use Rattle.std.proofs.Common.{◌≤◌, length, ap, arith}
use Rattle.cube_carrying.proofs.Blanks.{name_beyond}
use Rattle.cube_carrying.proofs.carried_cells.member_name.Goals as goal

pub returns-then-level-levels : goal.returns-then-level-levels
returns-then-level-levels c =
    let size = ap length c.levels.ensures.levels in
    let beyond : length c.args.dimension.now.levels ≤ c.args.level = omega (arith, size, c.if-level-levels.true) in
    name_beyond c.args.dimension.now c.args.level c.args.member c.levels.ensures.rules beyond
