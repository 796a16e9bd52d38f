use Rattle.cube_carry.proofs.Breaches.{breaches_are}
use Rattle.cube_carry.proofs.laws.continuing.breaches_are.Goals as goal

pub returns : goal.returns
returns c = breaches_are
