use Rattle.std.proofs.Common.{sym, ◌∙◌, ap, subst, Err}
use Rattle.cube_seal.specs.Seals.{IsSealFault}
use Rattle.cube_seal.proofs.SealBytes.{read_fault}
use Rattle.cube_seal.proofs.SealStates.{sync_done, held_crash, held_leaves}
use Rattle.cube_seal.proofs.seal.hold_log.Goals as goal

pub returns-in-Err-clause-fault : goal.returns-in-Err-clause-fault
returns-in-Err-clause-fault g c = λ told.
    let bytes = ((g.S.Store.state c.args.store.now).logs c.args.log).state.now in
    subst (IsSealFault c.args.values.now bytes) (sym c.of_store.ensures) (read_fault c.args.values.now bytes c.in-Err.fault (λ e. c.in-Err.ensures.long told (ap Err e)))

pub returns-in-Ok-sync-clause-sealed : goal.returns-in-Ok-sync-clause-sealed
returns-in-Ok-sync-clause-sealed g c = λ told.
    let read = c.read_all.ensures.works.told ∙ told in
    sync_done c.args.values.now ((g.S.Store.state c.compare.new.store).logs c.args.log) ((g.S.Store.state c.sync.new.self).logs c.args.log)
    c.in-Ok-compare.ensures.lower (c.in-Ok-compare.ensures.ok read) (c.in-Ok-sync.ensures.done (c.compare.ensures.works.told ∙ read))

pub returns-in-Ok-sync-clause-crash : goal.returns-in-Ok-sync-clause-crash
returns-in-Ok-sync-clause-crash g c = λ told.
    let read = c.read_all.ensures.works.told ∙ told in
    held_crash c.args.values.now ((g.S.Store.state c.args.store.now).logs c.args.log) ((g.S.Store.state c.read_all.new.self).logs c.args.log) ((g.S.Store.state c.compare.new.store).logs c.args.log) ((g.S.Store.state c.sync.new.self).logs c.args.log)
    c.in-Ok-compare.ensures.lower (c.read_all.ensures.logs told c.args.log) (c.compare.ensures.crash read) (c.compare.ensures.leaves read) (c.in-Ok-compare.ensures.ok read) (c.sync.ensures.passes (c.compare.ensures.works.told ∙ read))

pub returns-in-Ok-sync-clause-leaves : goal.returns-in-Ok-sync-clause-leaves
returns-in-Ok-sync-clause-leaves g c = λ told.
    let read = c.read_all.ensures.works.told ∙ told in
    held_leaves c.args.values.now ((g.S.Store.state c.args.store.now).logs c.args.log) ((g.S.Store.state c.read_all.new.self).logs c.args.log) ((g.S.Store.state c.compare.new.store).logs c.args.log) ((g.S.Store.state c.sync.new.self).logs c.args.log)
    c.in-Ok-compare.ensures.lower (c.read_all.ensures.logs told c.args.log) (c.compare.ensures.leaves read) (c.in-Ok-compare.ensures.ok read) (c.sync.ensures.passes (c.compare.ensures.works.told ∙ read))

pub returns-clause-crash : goal.returns-clause-crash
returns-clause-crash g c = λ told.
    let read = c.read_all.ensures.works.told ∙ told in
    held_crash c.args.values.now ((g.S.Store.state c.args.store.now).logs c.args.log) ((g.S.Store.state c.read_all.new.self).logs c.args.log) ((g.S.Store.state c.compare.new.store).logs c.args.log) ((g.S.Store.state c.sync.new.self).logs c.args.log)
    c.in-Ok-compare.ensures.lower (c.read_all.ensures.logs told c.args.log) (c.compare.ensures.crash read) (c.compare.ensures.leaves read) (c.in-Ok-compare.ensures.ok read) (c.sync.ensures.passes (c.compare.ensures.works.told ∙ read))
