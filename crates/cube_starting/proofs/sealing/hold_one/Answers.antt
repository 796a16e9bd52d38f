use Rattle.cube_io.specs.Seen.{seen}
use Rattle.cube_starting.proofs.SealsHeld.{at_seal}
use Rattle.cube_starting.proofs.sealing.hold_one.Goals as goal

pub returns-in-Err-clause-err : goal.returns-in-Err-clause-err
returns-in-Err-clause-err g c = at_seal c.args.log c.args.called.now c.args.values.now (seen g.S.Store.state c.args.store.now c.hold_seal.new.store) c.in-Err.fault c.refuse_seal.result c.in-Err.ensures.cause c.in-Err.ensures.fault c.refuse_seal.ensures
