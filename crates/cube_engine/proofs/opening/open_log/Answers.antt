use Rattle.cube_engine.proofs.Logs.{opened_crash, opened_sound, opened_kept, opened_exact}
use Rattle.cube_engine.proofs.opening.open_log.Goals as goal

pub returns-in-Err-clause-crash : goal.returns-in-Err-clause-crash
returns-in-Err-clause-crash g c = λ told. opened_crash c.args.core.now c.args.policy.now c.in_ok-digest.digest c.dims.result.now c.len-places.result ((g.S.Store.state c.args.store.now).logs c.args.log) ((g.S.Store.state c.recover-opened.new.store).logs c.args.log) c.in_ok-digest.ensures c.dims.ensures.dims c.len-places.ensures.len (c.recover-opened.ensures.crash told)

pub returns-in-Ok-judge_all-clause-crash : goal.returns-in-Ok-judge_all-clause-crash
returns-in-Ok-judge_all-clause-crash g c = λ told. opened_crash c.args.core.now c.args.policy.now c.in_ok-digest.digest c.dims.result.now c.len-places.result ((g.S.Store.state c.args.store.now).logs c.args.log) ((g.S.Store.state c.recover-opened.new.store).logs c.args.log) c.in_ok-digest.ensures c.dims.ensures.dims c.len-places.ensures.len (c.recover-opened.ensures.crash told)

pub returns-clause-crash : goal.returns-clause-crash
returns-clause-crash g c = λ told. opened_crash c.args.core.now c.args.policy.now c.in_ok-digest.digest c.dims.result.now c.len-places.result ((g.S.Store.state c.args.store.now).logs c.args.log) ((g.S.Store.state c.recover-opened.new.store).logs c.args.log) c.in_ok-digest.ensures c.dims.ensures.dims c.len-places.ensures.len (c.recover-opened.ensures.crash told)

pub judge_all-requires-clause-sound : goal.judge_all-requires-clause-sound
judge_all-requires-clause-sound g c = rw c.as_slice.ensures (opened_sound c.args.core.now c.args.policy.now c.dims.result.now c.len-places.result c.in-Ok.opened.1 c.dims.ensures.dims c.len-places.ensures.len c.in-Ok.ensures.sound)

pub returns-in-Ok-judge_all-clause-kept : goal.returns-in-Ok-judge_all-clause-kept
returns-in-Ok-judge_all-clause-kept g c =
    let leaves = rw c.as_slice.ensures at c.in-Ok-judge_all.ensures.left in
    λ told. opened_kept c.args.core.now c.args.policy.now c.in-Ok-judge_all.state.history c.in-Ok.opened.1 c.in-Ok.opened.0 ((g.S.Store.state c.args.store.now).logs c.args.log).state.now c.in_ok-digest.digest c.dims.result.now c.len-places.result ((g.S.Store.state c.recover-opened.new.store).logs c.args.log).state c.in_ok-digest.ensures c.dims.ensures.dims c.len-places.ensures.len c.digits-digits.ensures.lower (c.in-Ok.ensures.history told) leaves (c.in-Ok.ensures.fits told) (c.in-Ok.ensures.ok told)

pub returns-in-Ok-judge_all-clause-exact : goal.returns-in-Ok-judge_all-clause-exact
returns-in-Ok-judge_all-clause-exact g c =
    let leaves = rw c.as_slice.ensures at c.in-Ok-judge_all.ensures.left in
    λ told. opened_exact c.args.core.now c.args.policy.now c.in-Ok-judge_all.state.history c.in-Ok.opened.1 ((g.S.Store.state c.args.store.now).logs c.args.log).state.now c.in_ok-digest.digest c.dims.result.now c.len-places.result ((g.S.Store.state c.recover-opened.new.store).logs c.args.log).state c.in_ok-digest.ensures c.dims.ensures.dims c.len-places.ensures.len c.digits-digits.ensures.lower (c.in-Ok.ensures.history told) leaves (c.in-Ok.ensures.ok told)
