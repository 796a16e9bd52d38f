use Rattle.cube_made.proofs.PolicyRead.{policy_is_read}
use Rattle.cube_made.proofs.laws.policy_is_read.Goals as goal

pub returns : goal.returns
returns c = policy_is_read
