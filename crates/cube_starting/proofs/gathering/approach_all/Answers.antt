use Rattle.std.proofs.Common.{◌≡◌, ◌∙◌, ◌≤◌, ◌+◌, ◌++◌, ℕ, List, length, map, sym, ap, subst, arith, IsTrue}
use Rattle.std.proofs.lemmas.List.{length-map}
use Rattle.cube_model.specs.Cubes.{Each}
use Rattle.cube_io.specs.Seen.{seen}
use Rattle.cube_starting.specs.Grouping.{AllAgree, EndsAtSeals, journal_of}
use Rattle.cube_starting.proofs.Names.{short_names}
use Rattle.cube_starting.proofs.SealsHeld.{agree_on, unsealed_on}
use Rattle.cube_starting.proofs.gathering.approach_all.Goals as goal

pub compare_all-requires-clause-short : goal.compare_all-requires-clause-short
compare_all-requires-clause-short g c =
    let is : c.as_slice.result.now ≡ map journal_of c.args.groups.now = c.as_slice.ensures.value ∙ c.in-Ok-push_called.ensures ∙ ap (λ (l : List (List ℕ)). l ++ map journal_of c.args.groups.now) c.new.ensures.items in
    subst (Each (λ (n : List ℕ). length n ≤ 40)) (sym is) (short_names c.args.groups.now c.requires.short)

pub returns-in-Ok-compare_all-clause-agreed : goal.returns-in-Ok-compare_all-clause-agreed
returns-in-Ok-compare_all-clause-agreed g c = λ told.
    let values = c.args.values.now in
    let tells = g.S.Store.state in
    let old = c.args.store.now in
    let mid = c.attach_store.new.store in
    let x = c.in-Ok.ensures in
    let ns = map journal_of c.args.groups.now in
    let is : c.as_slice.result.now ≡ ns = c.as_slice.ensures.value ∙ c.in-Ok-push_called.ensures ∙ ap (λ (l : List (List ℕ)). l ++ ns) c.new.ensures.items in
    let few : 0 + length ns ≤ 16 = (let f = c.requires.few in let long = length-map c.args.groups.now journal_of in omega (arith, f, long)) in
    agree_on values tells old mid c.compare_all.new.store 0 x.told (λ told j from low. x.logs told _) 0 ns (omega arith) few told
    (subst (AllAgree values (tells mid) 0) is (c.in-Ok-compare_all.ensures.agreed (subst IsTrue (sym x.told) told)))

pub returns-in-Err-compare_all-clause-err : goal.returns-in-Err-compare_all-clause-err
returns-in-Err-compare_all-clause-err g c =
    let values = c.args.values.now in
    let tells = g.S.Store.state in
    let old = c.args.store.now in
    let mid = c.attach_store.new.store in
    let new = c.compare_all.new.store in
    let r = c.in-Err-compare_all.report in
    let x = c.in-Ok.ensures in
    let ns = map journal_of c.args.groups.now in
    let is : c.as_slice.result.now ≡ ns = c.as_slice.ensures.value ∙ c.in-Ok-push_called.ensures ∙ ap (λ (l : List (List ℕ)). l ++ ns) c.new.ensures.items in
    let few : 0 + length ns ≤ 16 = (let f = c.requires.few in let long = length-map c.args.groups.now journal_of in omega (arith, f, long)) in
    unsealed_on values tells old mid new 0 x.told (λ told j from low. x.logs told _) 0 ns r (omega arith) few x.steady
    (subst (λ (l : List (List ℕ)). EndsAtSeals 0 l values (seen tells mid new) r) is c.in-Err-compare_all.ensures.err)
