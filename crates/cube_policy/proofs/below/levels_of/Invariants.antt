use Rattle.std.proofs.Common.{◌≡◌, map, take}
use Rattle.cube_policy.specs.PolicyFile.{level_below}
use Rattle.cube_policy.proofs.below.levels_of.Given as goal

abbrev pub invariant-loop-d : goal.invariant-loop-d
invariant-loop-d l = l.levels ≡ map (level_below l.below) (take l.d l.dims.dimensions)
