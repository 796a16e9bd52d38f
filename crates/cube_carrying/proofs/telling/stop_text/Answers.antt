use Rattle.std.proofs.Common.{subst}
use Rattle.cube_carrying.specs.Histories.{IsThere}
use Rattle.cube_carry.specs.Names.{named}
use Rattle.cube_carrying.proofs.Told.{stop_cell}
use Rattle.cube_carrying.proofs.telling.stop_text.Goals as goal

pub cell_line-requires-clause-cell : goal.cell_line-requires-clause-cell
cell_line-requires-clause-cell c =
    let there = subst (IsThere (named c.args.new.now c.args.new_policy.now)) c.in-Fixes.is c.requires in
    rw c.dims-dims.ensures.dims (stop_cell c.args.new.now c.args.new_policy.now c.in-Fixes.measure c.in-Fixes.cell c.dims-dims.ensures.rules there.1)
