use Rattle.std.proofs.Common.{◌≡◌, take, map, true}
use Rattle.cube_model.specs.Cubes.{are_levels}
use Rattle.cube_model.specs.Dims.{plain}
use Rattle.cube_journal.proofs.reading.are_levels.Given as goal

abbrev pub invariant-loop-d : goal.invariant-loop-d
invariant-loop-d l = are_levels (map plain (take l.d l.dims.dimensions)) (take l.d l.levels) ≡ true
