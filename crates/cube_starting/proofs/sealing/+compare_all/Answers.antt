use Rattle.std.proofs.Common.{◌≡◌, ◌≤◌, ◌+◌, ◌-◌, ℕ, suc, List, length, take, drop, ap, sym, subst, arith, IsTrue}
use Rattle.cube_io.specs.Seen.{seen}
use Rattle.cube_opening.proofs.Behind.{if_err, on_two}
use Rattle.cube_starting.specs.Grouping.{AllAgree, EndsAtSeals}
use Rattle.cube_starting.proofs.Lists.{first_and_rest}
use Rattle.cube_starting.proofs.SealsHeld.{agree_on, unsealed_behind, unsealed_on}
use Rattle.cube_starting.proofs.sealing.+compare_all.Goals as goal

pub returns-in-Ok-clause-agreed : goal.returns-in-Ok-clause-agreed
returns-in-Ok-clause-agreed g t c = λ told.
    let values = c.args.values.now in
    let k = c.args.log in
    let tells = g.S.Store.state in
    let old = c.args.store.now in
    let mid = c.compare_one.new.store in
    let new = c.compare_all.new.store in
    let rest = take (length c.args.called.now - 1) (drop 1 c.args.called.now) in
    let whole = first_and_rest c.args.called.now c.name-item.result c.in-len1-up.len_at_least c.name-item.is in
    let long : suc (length rest) ≡ length c.args.called.now = ap (λ (l : List (List ℕ)). length l) whole in
    let x = c.in-Ok.ensures in
    let few : suc k + length rest ≤ 16 = (let f = c.requires.few in omega (arith, f, long)) in
    let next : k + 1 ≡ suc k = omega arith in
    on_two _ _ _ c.compare_all.result (λ h i. subst (AllAgree values (tells old) k) whole (x.agreed told, agree_on values tells old mid new (suc k) x.works.told (λ told j from low. x.logs told _) (suc k) rest (omega arith) few told (subst (λ (n : ℕ). AllAgree values (tells mid) n rest) next h)))
    (c.compare_all.ensures.agreed (subst IsTrue (sym x.works.told) told)) (c.compare_all.ensures.agreed (subst IsTrue (sym x.works.told) told))

pub returns-in-Ok-clause-err : goal.returns-in-Ok-clause-err
returns-in-Ok-clause-err g t c =
    let values = c.args.values.now in
    let k = c.args.log in
    let tells = g.S.Store.state in
    let old = c.args.store.now in
    let mid = c.compare_one.new.store in
    let new = c.compare_all.new.store in
    let name = c.name-item.result in
    let rest = take (length c.args.called.now - 1) (drop 1 c.args.called.now) in
    let whole = first_and_rest c.args.called.now name c.in-len1-up.len_at_least c.name-item.is in
    let long : suc (length rest) ≡ length c.args.called.now = ap (λ (l : List (List ℕ)). length l) whole in
    let x = c.in-Ok.ensures in
    let few : suc k + length rest ≤ 16 = (let f = c.requires.few in omega (arith, f, long)) in
    let next : k + 1 ≡ suc k = omega arith in
    if_err _ _ c.compare_all.result (λ r h. subst (λ (ns : List (List ℕ)). EndsAtSeals k ns values (seen tells old new) r) whole
    (unsealed_behind k name rest values (seen tells old new) r x.agreed (unsealed_on values tells old mid new (suc k) x.works.told (λ told j from low. x.logs told _) (suc k) rest r (omega arith) few x.steady (subst (λ (n : ℕ). EndsAtSeals n rest values (seen tells mid new) r) next h)))) c.compare_all.ensures.err
