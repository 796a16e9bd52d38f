use Rattle.std.proofs.Common.{◌≡◌, [], take, map}
use Rattle.cube_model.specs.Checks.{in_turn}
use Rattle.cube_tables.specs.Members.{named}
use Rattle.cube_policy.specs.KnownKeys.{known_keys}
use Rattle.cube_policy.specs.PolicyFile.{unknown_key}
use Rattle.cube_policy.proofs.keys.check_members.Given as goal

abbrev pub invariant-loop-member : goal.invariant-loop-member
invariant-loop-member l = in_turn (unknown_key l.entry (known_keys l.kind)) [] (take l.member-index (map named l.members)) ≡ []
