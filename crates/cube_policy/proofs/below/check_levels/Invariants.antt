use Rattle.std.proofs.Common.{◌≡◌, [], take}
use Rattle.cube_model.specs.Checks.{in_turn}
use Rattle.cube_policy.specs.PolicyFile.{unknown_level}
use Rattle.cube_policy.proofs.below.check_levels.Given as goal

abbrev pub invariant-loop-dimension : goal.invariant-loop-dimension
invariant-loop-dimension l = in_turn (unknown_level l.dims l.entry) [] (take l.dimension-index l.below) ≡ []
