use Rattle.std.proofs.Common.{refl, sym}
use Rattle.cube_model.specs.Cores.{shown}
use Rattle.cube_admit.proofs.Standing.{at_first}
use Rattle.cube_admit.proofs.Tables.{stands_back}
use Rattle.cube_admit.proofs.state.State.new.Goals as goal

pub returns-clause-stands : goal.returns-clause-stands
returns-clause-stands c = at_first (shown c.args.core.now c.args.policy.now) _ c.new.ensures.items c.in_ok-start_all.ensures refl (stands_back c.args.core.now c.args.policy.now _ c.requires.policy (c.in_ok-new.ensures.stands c.args.core.now (sym c.dims.ensures.dims)))
