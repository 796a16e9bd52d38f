use Rattle.std.proofs.Common.{◌≤◌, length, ap, sym, ◌∙◌, arith}
use Rattle.cube_carrying.proofs.Blanks.{unnamed_beyond, named_beyond}
use Rattle.cube_carrying.proofs.carried_cells.member_named.Goals as goal

pub returns-then-is_empty : goal.returns-then-is_empty
returns-then-is_empty c =
    let size = ap length c.levels.ensures.levels in
    let beyond : length c.args.dimension.now.levels ≤ c.args.level = omega (arith, size, c.if-level-levels.false) in
    unnamed_beyond c.args.dimension.now c.args.level c.args.name.now c.levels.ensures.rules beyond (sym c.is_empty.ensures ∙ c.if-is_empty.true)

pub returns-else-is_empty : goal.returns-else-is_empty
returns-else-is_empty c =
    let size = ap length c.levels.ensures.levels in
    let beyond : length c.args.dimension.now.levels ≤ c.args.level = omega (arith, size, c.if-level-levels.false) in
    named_beyond c.args.dimension.now c.args.level c.args.name.now c.levels.ensures.rules beyond (sym c.is_empty.ensures ∙ c.if-is_empty.false)
