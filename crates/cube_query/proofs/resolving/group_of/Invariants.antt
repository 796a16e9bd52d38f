use Rattle.std.proofs.Common.{◌≡◌, ◌++◌, drop}
use Rattle.cube_query.specs.Placing.{or_all}
use Rattle.cube_query.proofs.resolving.group_of.Given as goal

abbrev pub invariant-loop-d : goal.invariant-loop-d
invariant-loop-d l = l.group ++ or_all (drop l.d l.dims.dimensions) (drop l.d l.levels) ≡ or_all l.dims.dimensions l.levels
