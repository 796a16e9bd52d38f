use Rattle.std.proofs.Common.{◌≡◌, [], take}
use Rattle.cube_model.specs.Checks.{in_turn}
use Rattle.cube_dims.specs.DimsFile.{bad_level}
use Rattle.cube_dims.proofs.dimension.check_level_names.Given as goal

abbrev pub invariant-loop-index : goal.invariant-loop-index
invariant-loop-index l = in_turn (bad_level l.entry) [] (take l.index l.levels) ≡ []
