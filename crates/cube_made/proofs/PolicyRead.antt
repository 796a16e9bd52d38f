-- The made policy is read.
use Rattle.std.proofs.Common.{◌≡◌, ℕ, [], refl, ap, ◌∙◌}
use Rattle.std.specs.Fmt.{digits}
use Rattle.cube_tables.proofs.Turns.{accepted}
use Rattle.cube_policy.specs.PolicyFile as file
use Rattle.cube_policy.specs.PolicyFile.{declared_of, measure_faults, within_of, within_faults, object_of, object_faults, policy_faults, policy_in, policy_of}
use Rattle.cube_made.specs.Laws.{PolicyIsRead}
use Rattle.cube_made.specs.Values.{dims_said, policy_said}
use Rattle.cube_made.proofs.PolicyText.{policy_table, policy_parse}

no_faults : (s : ℕ) → policy_faults (dims_said s) policy_table ≡ []
unfolding declared_of measure_faults within_of within_faults object_of object_faults digits
no_faults s = refl

says : (s : ℕ) → policy_in (dims_said s) policy_table ≡ policy_said
unfolding declared_of within_of object_of digits
says s = refl

pub policy_is_read : PolicyIsRead
unfolding policy_of
policy_is_read s size = ap (file.policy_said (dims_said s)) policy_parse ∙ accepted _ _ _ (no_faults s) (says s)
