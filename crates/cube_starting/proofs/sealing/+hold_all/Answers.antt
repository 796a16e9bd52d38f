use Rattle.std.proofs.Common.{◌≡◌, ◌≤◌, ◌+◌, ◌-◌, ℕ, suc, List, length, take, drop, ap, sym, subst, arith, IsTrue}
use Rattle.cube_io.specs.Seen.{seen}
use Rattle.cube_opening.proofs.Behind.{if_err, on_two}
use Rattle.cube_starting.specs.Grouping.{AllSealed, AllSeals, EndsAtSeals, OnlySeals}
use Rattle.cube_starting.proofs.Lists.{first_and_rest}
use Rattle.cube_starting.proofs.SealsHeld.{later_seals, seals_first, seals_more, sealed_more, unsealed_behind, unsealed_on}
use Rattle.cube_starting.proofs.sealing.+hold_all.Goals as goal

pub returns-in-Ok-clause-sealed : goal.returns-in-Ok-clause-sealed
returns-in-Ok-clause-sealed g t c = λ told.
    let values = c.args.values.now in
    let k = c.args.log in
    let tells = g.S.Store.state in
    let old = c.args.store.now in
    let mid = c.hold_one.new.store in
    let new = c.hold_all.new.store in
    let name = c.name-item.result in
    let rest = take (length c.args.called.now - 1) (drop 1 c.args.called.now) in
    let whole = first_and_rest c.args.called.now name c.in-len1-up.len_at_least c.name-item.is in
    let long : suc (length rest) ≡ length c.args.called.now = ap (λ (l : List (List ℕ)). length l) whole in
    let x = c.in-Ok.ensures in
    let few : suc k + length rest ≤ 16 = (let f = c.requires.few in omega (arith, f, long)) in
    let next : k + 1 ≡ suc k = omega arith in
    let others : OnlySeals (suc k) (length rest) (tells mid) (tells new) = subst (λ (n : ℕ). OnlySeals n (length rest) (tells mid) (tells new)) next c.hold_all.ensures.others in
    let on = subst IsTrue (sym x.works.told) told in
    on_two _ _ _ c.hold_all.result (λ h i. subst (AllSealed values (tells new) k) whole (sealed_more values tells old mid new k rest few x.works.told x.others others name told (x.sealed told) (subst (λ (n : ℕ). AllSealed values (tells new) n rest) next h))) (c.hold_all.ensures.sealed on) (c.hold_all.ensures.sealed on)

pub returns-in-Ok-clause-seals : goal.returns-in-Ok-clause-seals
returns-in-Ok-clause-seals g t c =
    let values = c.args.values.now in
    let k = c.args.log in
    let tells = g.S.Store.state in
    let old = c.args.store.now in
    let mid = c.hold_one.new.store in
    let new = c.hold_all.new.store in
    let name = c.name-item.result in
    let rest = take (length c.args.called.now - 1) (drop 1 c.args.called.now) in
    let whole = first_and_rest c.args.called.now name c.in-len1-up.len_at_least c.name-item.is in
    let long : suc (length rest) ≡ length c.args.called.now = ap (λ (l : List (List ℕ)). length l) whole in
    let x = c.in-Ok.ensures in
    let few : suc k + length rest ≤ 16 = (let f = c.requires.few in omega (arith, f, long)) in
    let next : k + 1 ≡ suc k = omega arith in
    let others : OnlySeals (suc k) (length rest) (tells mid) (tells new) = subst (λ (n : ℕ). OnlySeals n (length rest) (tells mid) (tells new)) next c.hold_all.ensures.others in
    subst (AllSeals values (seen tells old new) k) whole (seals_more values tells old mid new k rest few x.works.told x.others others name x.seals (subst (λ (n : ℕ). AllSeals values (seen tells mid new) n rest) next c.hold_all.ensures.seals))

pub returns-in-Ok-clause-err : goal.returns-in-Ok-clause-err
returns-in-Ok-clause-err g t c =
    let values = c.args.values.now in
    let k = c.args.log in
    let tells = g.S.Store.state in
    let old = c.args.store.now in
    let mid = c.hold_one.new.store in
    let new = c.hold_all.new.store in
    let name = c.name-item.result in
    let rest = take (length c.args.called.now - 1) (drop 1 c.args.called.now) in
    let whole = first_and_rest c.args.called.now name c.in-len1-up.len_at_least c.name-item.is in
    let long : suc (length rest) ≡ length c.args.called.now = ap (λ (l : List (List ℕ)). length l) whole in
    let x = c.in-Ok.ensures in
    let few : suc k + length rest ≤ 16 = (let f = c.requires.few in omega (arith, f, long)) in
    let next : k + 1 ≡ suc k = omega arith in
    let others : OnlySeals (suc k) (length rest) (tells mid) (tells new) = subst (λ (n : ℕ). OnlySeals n (length rest) (tells mid) (tells new)) next c.hold_all.ensures.others in
    if_err _ _ c.hold_all.result (λ r h. subst (λ (ns : List (List ℕ)). EndsAtSeals k ns values (seen tells old new) r) whole
    (unsealed_behind k name rest values (seen tells old new) r x.agreed
    (unsealed_on values tells old mid new (suc k) x.works.told (later_seals values tells old mid new k rest few x.works.told x.others others) (suc k) rest r (omega arith) few x.steady (subst (λ (n : ℕ). EndsAtSeals n rest values (seen tells mid new) r) next h)))) c.hold_all.ensures.err

pub returns-in-Err-clause-seals : goal.returns-in-Err-clause-seals
returns-in-Err-clause-seals g t c =
    let values = c.args.values.now in
    let k = c.args.log in
    let tells = g.S.Store.state in
    let old = c.args.store.now in
    let new = c.hold_one.new.store in
    let rest = take (length c.args.called.now - 1) (drop 1 c.args.called.now) in
    let whole = first_and_rest c.args.called.now c.name-item.result c.in-len1-up.len_at_least c.name-item.is in
    let long : suc (length rest) ≡ length c.args.called.now = ap (λ (l : List (List ℕ)). length l) whole in
    let few : suc k + length rest ≤ 16 = (let f = c.requires.few in omega (arith, f, long)) in
    subst (AllSeals values (seen tells old new) k) whole (seals_first values tells old new k c.name-item.result rest few c.in-Err.ensures.others c.in-Err.ensures.seals)
