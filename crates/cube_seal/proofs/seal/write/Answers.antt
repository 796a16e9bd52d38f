use Rattle.std.proofs.Common.{◌∙◌}
use Rattle.cube_io.proofs.Trails.{gained_then}
use Rattle.cube_seal.specs.Seals.{IsSealable}
use Rattle.cube_seal.proofs.seal.write.Goals as goal

pub returns-in-Ok-clause-crash : goal.returns-in-Ok-clause-crash
returns-in-Ok-clause-crash g c = λ told is. gained_then (IsSealable c.args.values.now) ((g.S.Store.state c.args.store.now).logs c.args.log) ((g.S.Store.state c.emptied.new.store).logs c.args.log) ((g.S.Store.state c.put.new.store).logs c.args.log)
    (c.emptied.ensures.crash told c.args.values.now is) (c.put.ensures.crash (c.emptied.ensures.works.told ∙ told) (c.emptied.ensures.leaves told c.args.values.now is))

pub returns-in-Ok-clause-leaves : goal.returns-in-Ok-clause-leaves
returns-in-Ok-clause-leaves g c = λ told is. c.put.ensures.leaves (c.emptied.ensures.works.told ∙ told) (c.emptied.ensures.leaves told c.args.values.now is)

pub returns-in-Err-clause-leaves : goal.returns-in-Err-clause-leaves
returns-in-Err-clause-leaves g c = λ told is. c.emptied.ensures.leaves told c.args.values.now is
