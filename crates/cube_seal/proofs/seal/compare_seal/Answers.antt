use Rattle.std.proofs.Common.{ℕ, ◌<◌, ◌^◌, length, sym, ap, subst, Err}
use Rattle.cube_seal.specs.Seals.{IsSealFault, seal_log}
use Rattle.cube_seal.proofs.SealBytes.{read_fault}
use Rattle.cube_seal.proofs.seal.compare_seal.Goals as goal

pub returns-in-Err-clause-fault : goal.returns-in-Err-clause-fault
returns-in-Err-clause-fault g c = λ told.
    let logs = (g.S.Store.state c.args.store.now).logs in
    let bytes = (logs (seal_log c.args.journal)).state.now in
    subst (IsSealFault c.args.values.now bytes) (sym c.of_store.ensures) (read_fault c.args.values.now bytes c.in-Err.fault (λ e. subst (λ (l : ℕ). 2 ^ 28 < length (logs l).state.now) c.seal_log.ensures (c.in-Err.ensures.long told (ap Err e))))
