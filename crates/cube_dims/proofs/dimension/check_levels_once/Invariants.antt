use Rattle.std.proofs.Common.{◌≡◌, [], take}
use Rattle.cube_model.specs.Checks.{in_turn}
use Rattle.cube_dims.specs.DimsFile.{level_twice}
use Rattle.cube_dims.proofs.dimension.check_levels_once.Given as goal

abbrev pub invariant-loop-index : goal.invariant-loop-index
invariant-loop-index l = in_turn (level_twice l.entry) [] (take l.index l.levels) ≡ []
