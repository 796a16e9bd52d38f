use Rattle.std.proofs.Common.{◌≡◌, drop, length, replicate}
use Rattle.std.specs.Prelude.{None}
use Rattle.cube_query.specs.Placing.{level_placed, all_placed}
use Rattle.cube_query.proofs.resolving.place_levels.Given as goal

abbrev pub invariant-loop-name : goal.invariant-loop-name
invariant-loop-name l = (length l.levels.items ≡ length l.dims.dimensions)
    × (all_placed (level_placed l.dims) l.levels.items (drop l.name-index l.names) ≡ all_placed (level_placed l.dims) (replicate (length l.dims.dimensions) None) l.names)
