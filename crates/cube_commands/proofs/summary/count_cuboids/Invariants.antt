use Rattle.std.proofs.Common.{◌≡◌, ◌*◌, map, drop}
use Rattle.cube_model.specs.Cubes.{cuboid_count}
use Rattle.cube_model.specs.Dims.{plain, plains}
use Rattle.cube_commands.proofs.summary.count_cuboids.Given as goal

abbrev pub invariant-loop-dimension : goal.invariant-loop-dimension
invariant-loop-dimension l = l.count * cuboid_count (map plain (drop l.dimension-index l.dims.dimensions)) ≡ cuboid_count (plains l.dims)
