use Rattle.std.proofs.Common.{◌≡◌, map, take, get_or}
use Rattle.cube_carry.specs.Names.{dimension_in}
use Rattle.cube_carrying.proofs.carried_cells.carried_levels.Given as goal

abbrev pub invariant-dimensions : goal.invariant-dimensions
invariant-dimensions l = l.carried ≡ map (λ e. get_or l.levels (dimension_in l.old e) 0) (take l.dimension-index l.dimension-items)
