use Rattle.std.proofs.Common.{◌≡◌, drop, map}
use Rattle.cube_model.specs.Dims.{plain, plains}
use Rattle.cube_model.specs.Requests.{is_grouped}
use Rattle.cube_query.proofs.canonical.groups.Given as goal

abbrev pub invariant-loop-d : goal.invariant-loop-d
invariant-loop-d l = is_grouped (map plain (drop l.d l.dims.dimensions)) (drop l.d l.levels) ≡ is_grouped (plains l.dims) l.levels
