use Rattle.std.proofs.Common.{◌≡◌, map}
use Rattle.cube_model.specs.Cubes.{names_at, count_from}
use Rattle.cube_model.specs.Dims.{plain}
use Rattle.cube_dims.proofs.paths.members_of.Given as goal

abbrev pub invariant-loop-level : goal.invariant-loop-level
invariant-loop-level l = l.members ≡ map (names_at (plain l.parts)) (count_from 0 l.level)
