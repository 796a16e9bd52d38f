use Rattle.std.proofs.Common.{◌≡◌, [], take, length}
use Rattle.cube_model.specs.Checks.{in_turn}
use Rattle.cube_dims.specs.DimsFile.{path_faults}
use Rattle.cube_dims.proofs.paths.check_paths.Given as goal

abbrev pub invariant-loop-leaf : goal.invariant-loop-leaf
invariant-loop-leaf l = in_turn (path_faults l.entry (length l.parts.levels)) [] (take l.leaf l.parts.paths) ≡ []
