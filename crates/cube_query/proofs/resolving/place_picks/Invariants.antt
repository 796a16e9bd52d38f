use Rattle.std.proofs.Common.{◌≡◌, drop, length, replicate}
use Rattle.std.specs.Prelude.{None}
use Rattle.cube_query.specs.Placing.{pick_placed, all_placed}
use Rattle.cube_query.proofs.resolving.place_picks.Given as goal

abbrev pub invariant-loop-name : goal.invariant-loop-name
invariant-loop-name l = (length l.picks.items ≡ length l.dims.dimensions)
    × (all_placed (pick_placed l.dims) l.picks.items (drop l.name-index l.names) ≡ all_placed (pick_placed l.dims) (replicate (length l.dims.dimensions) None) l.names)
