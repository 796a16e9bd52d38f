use Rattle.cube_reason.proofs.Accepted.{odd_is}
use Rattle.cube_reason.proofs.accepting.is_odd.Goals as goal

pub returns : goal.returns
returns c = odd_is c.args.steps.now
