use Rattle.std.proofs.Common.{◌≡◌, map, take, get_or}
use Rattle.cube_carry.specs.Names.{dimension_in, same_dimension, carried_member}
use Rattle.cube_carrying.proofs.carried_cells.carried_key.Given as goal

abbrev pub invariant-dimensions : goal.invariant-dimensions
invariant-dimensions l = l.key ≡ map (λ e. carried_member (same_dimension l.old e) e (get_or l.cell.levels (dimension_in l.old e) 0) (get_or l.cell.key (dimension_in l.old e) 0)) (take l.dimension-index l.dimension-items)
