use Rattle.std.proofs.Common.{◌≡◌, ◌∙◌, ◌≤◌, ◌+◌, ℕ, List, length, map, inl, ap, sym, subst, arith, IsTrue}
use Rattle.std.proofs.lemmas.List.{length-map}
use Rattle.cube_model.specs.Cubes.{Each}
use Rattle.cube_io.specs.Seen.{seen}
use Rattle.cube_seal.specs.Values.{digest_of_values}
use Rattle.cube_starting.specs.Grouping.{AllSealed, AllSeals, EndsAtSeals, OnlySeals, journal_of}
use Rattle.cube_starting.proofs.Gathered.{all_over, all_ruled, kept_sealed, only_first, only_from_first, recover_sealed, seals_stay, some_started, started_sealed, unsealed_groups}
use Rattle.cube_starting.proofs.Names.{short_names}
use Rattle.cube_starting.proofs.SealsHeld.{none_sealed, seals_on, unsealed_on}
use Rattle.cube_starting.proofs.gathering.open_groups.Goals as goal

pub hold_all-requires-clause-short : goal.hold_all-requires-clause-short
hold_all-requires-clause-short g c =
    let is : c.as_slice.result.now ≡ map journal_of c.args.ruled.groups = c.as_slice.ensures.value ∙ c.in-Ok.ensures.called in
    subst (Each (λ (n : List ℕ). length n ≤ 40)) (sym is) (short_names c.args.ruled.groups c.requires.groups.short)

pub returns-in-Ok-hold_all-clause-ok : goal.returns-in-Ok-hold_all-clause-ok
returns-in-Ok-hold_all-clause-ok g c =
    let core = c.args.ruled.core in
    let gs = c.args.ruled.groups in
    let tells = g.S.Store.state in
    let old = c.args.store.now in
    let mid = c.start_groups.new.store in
    let new = c.hold_all.new.store in
    let x = c.in-Ok.ensures in
    let few = c.requires.groups.few in
    let others : OnlySeals 0 (length gs) (tells mid) (tells new) = subst (λ (n : ℕ). OnlySeals 0 n (tells mid) (tells new)) (ap length (c.as_slice.ensures.value ∙ x.called) ∙ length-map gs journal_of) c.hold_all.ensures.others in
    started_sealed core tells old mid new (length gs) few x.told others 0 gs c.in-Ok.opened.value.groups.books (omega (arith, few)) x.ok

pub returns-in-Ok-hold_all-clause-some : goal.returns-in-Ok-hold_all-clause-some
returns-in-Ok-hold_all-clause-some g c =
    let core = c.args.ruled.core in
    let gs = c.args.ruled.groups in
    let tells = g.S.Store.state in
    let old = c.args.store.now in
    let mid = c.start_groups.new.store in
    let new = c.hold_all.new.store in
    let x = c.in-Ok.ensures in
    some_started core (seen tells old mid) gs c.in-Ok.opened.value.groups.books c.requires.groups.some x.ok

pub returns-in-Ok-hold_all-clause-over : goal.returns-in-Ok-hold_all-clause-over
returns-in-Ok-hold_all-clause-over g c =
    let core = c.args.ruled.core in
    let gs = c.args.ruled.groups in
    let tells = g.S.Store.state in
    let old = c.args.store.now in
    let mid = c.start_groups.new.store in
    let new = c.hold_all.new.store in
    let x = c.in-Ok.ensures in
    all_over core (seen tells old mid) 0 gs c.in-Ok.opened.value.groups.books x.ok

pub returns-in-Ok-hold_all-clause-rules : goal.returns-in-Ok-hold_all-clause-rules
returns-in-Ok-hold_all-clause-rules g c =
    let core = c.args.ruled.core in
    let gs = c.args.ruled.groups in
    let tells = g.S.Store.state in
    let old = c.args.store.now in
    let mid = c.start_groups.new.store in
    let new = c.hold_all.new.store in
    let x = c.in-Ok.ensures in
    all_ruled core (seen tells old mid) 0 gs c.in-Ok.opened.value.groups.books x.ok

pub returns-in-Ok-hold_all-clause-kept : goal.returns-in-Ok-hold_all-clause-kept
returns-in-Ok-hold_all-clause-kept g c = λ told.
    let core = c.args.ruled.core in
    let gs = c.args.ruled.groups in
    let tells = g.S.Store.state in
    let old = c.args.store.now in
    let mid = c.start_groups.new.store in
    let new = c.hold_all.new.store in
    let x = c.in-Ok.ensures in
    let few = c.requires.groups.few in
    let others : OnlySeals 0 (length gs) (tells mid) (tells new) = subst (λ (n : ℕ). OnlySeals 0 n (tells mid) (tells new)) (ap length (c.as_slice.ensures.value ∙ x.called) ∙ length-map gs journal_of) c.hold_all.ensures.others in
    kept_sealed core tells old mid new (length gs) few x.told others gs c.in-Ok.opened.value.groups.books few x.ok told (x.kept told)

pub returns-in-Ok-hold_all-clause-passed : goal.returns-in-Ok-hold_all-clause-passed
returns-in-Ok-hold_all-clause-passed g c =
    let core = c.args.ruled.core in
    let gs = c.args.ruled.groups in
    let tells = g.S.Store.state in
    let old = c.args.store.now in
    let mid = c.start_groups.new.store in
    let new = c.hold_all.new.store in
    let x = c.in-Ok.ensures in
    let few = c.requires.groups.few in
    let others : OnlySeals 0 (length gs) (tells mid) (tells new) = subst (λ (n : ℕ). OnlySeals 0 n (tells mid) (tells new)) (ap length (c.as_slice.ensures.value ∙ x.called) ∙ length-map gs journal_of) c.hold_all.ensures.others in
    recover_sealed core tells old mid new (length gs) few x.told others 0 gs (omega (arith, few)) x.passed

pub returns-in-Err-hold_all-clause-passed : goal.returns-in-Err-hold_all-clause-passed
returns-in-Err-hold_all-clause-passed g c =
    let core = c.args.ruled.core in
    let gs = c.args.ruled.groups in
    let tells = g.S.Store.state in
    let old = c.args.store.now in
    let mid = c.start_groups.new.store in
    let new = c.hold_all.new.store in
    let x = c.in-Ok.ensures in
    let few = c.requires.groups.few in
    let others : OnlySeals 0 (length gs) (tells mid) (tells new) = subst (λ (n : ℕ). OnlySeals 0 n (tells mid) (tells new)) (ap length (c.as_slice.ensures.value ∙ x.called) ∙ length-map gs journal_of) c.hold_all.ensures.others in
    recover_sealed core tells old mid new (length gs) few x.told others 0 gs (omega (arith, few)) x.passed

pub returns-in-Err-clause-err : goal.returns-in-Err-clause-err
returns-in-Err-clause-err g c =
    let core = c.args.ruled.core in
    let gs = c.args.ruled.groups in
    let tells = g.S.Store.state in
    let old = c.args.store.now in
    let mid = c.start_groups.new.store in
    let few = c.requires.groups.few in
    let ns = map journal_of gs in
    let low : 0 + length ns ≤ 16 = (let long = length-map gs journal_of in omega (arith, few, long)) in
    let x = c.in-Err.ensures in
    record {
      unstarted = x.err;
      passed = x.passed;
      seals = none_sealed (digest_of_values core) tells old mid 0 ns low (λ told j from below. seals_stay (length gs) (tells old) (tells mid) few x.frame told j below);
      compared = x.compared;
    }

pub returns-in-Err-clause-opens : goal.returns-in-Err-clause-opens
returns-in-Err-clause-opens g c =
    let core = c.args.ruled.core in
    let gs = c.args.ruled.groups in
    let tells = g.S.Store.state in
    let old = c.args.store.now in
    let mid = c.start_groups.new.store in
    let x = c.in-Err.ensures in
    record {
      told = x.told;
      others = only_from_first (length gs) (tells old) (tells mid) x.frame;
      calls = λ told. (let a = x.calls told in omega (arith, a));
    }

pub returns-in-Ok-hold_all-clause-held : goal.returns-in-Ok-hold_all-clause-held
returns-in-Ok-hold_all-clause-held g c =
    let core = c.args.ruled.core in
    let gs = c.args.ruled.groups in
    let tells = g.S.Store.state in
    let old = c.args.store.now in
    let mid = c.start_groups.new.store in
    let new = c.hold_all.new.store in
    let x = c.in-Ok.ensures in
    let few = c.requires.groups.few in
    let ns = map journal_of gs in
    let low : 0 + length ns ≤ 16 = (let long = length-map gs journal_of in omega (arith, few, long)) in
    let is : c.as_slice.result.now ≡ ns = c.as_slice.ensures.value ∙ x.called in
    let values = c.digest_of_values-values.result in
    let seals = subst (λ (v : List ℕ). AllSeals v (seen tells old new) 0 ns) c.digest_of_values-values.ensures
    (seals_on values tells old mid new 0 x.told (λ told j from below. seals_stay (length gs) (tells old) (tells mid) few x.frame told j below) 0 ns (omega arith) low (subst (AllSeals values (seen tells mid new) 0) is c.hold_all.ensures.seals)) in
    record {
      agreed = x.agreed;
      sealed = λ told. subst (λ (v : List ℕ). AllSealed v (tells new) 0 ns) c.digest_of_values-values.ensures (subst (AllSealed values (tells new) 0) is (c.in-Ok-hold_all.ensures.sealed (subst IsTrue (sym x.told) told)));
      seals = seals;
    }

pub returns-in-Err-hold_all-clause-err : goal.returns-in-Err-hold_all-clause-err
returns-in-Err-hold_all-clause-err g c =
    let core = c.args.ruled.core in
    let gs = c.args.ruled.groups in
    let tells = g.S.Store.state in
    let old = c.args.store.now in
    let mid = c.start_groups.new.store in
    let new = c.hold_all.new.store in
    let x = c.in-Ok.ensures in
    let few = c.requires.groups.few in
    let ns = map journal_of gs in
    let low : 0 + length ns ≤ 16 = (let long = length-map gs journal_of in omega (arith, few, long)) in
    let is : c.as_slice.result.now ≡ ns = c.as_slice.ensures.value ∙ x.called in
    let values = c.digest_of_values-values.result in
    let seals = subst (λ (v : List ℕ). AllSeals v (seen tells old new) 0 ns) c.digest_of_values-values.ensures
    (seals_on values tells old mid new 0 x.told (λ told j from below. seals_stay (length gs) (tells old) (tells mid) few x.frame told j below) 0 ns (omega arith) low (subst (AllSeals values (seen tells mid new) 0) is c.hold_all.ensures.seals)) in
    let others : OnlySeals 0 (length gs) (tells mid) (tells new) = subst (λ (n : ℕ). OnlySeals 0 n (tells mid) (tells new)) (ap length is ∙ length-map gs journal_of) c.hold_all.ensures.others in
    let r = c.in-Err-hold_all.report in
    record {
      unstarted = unsealed_groups core gs (seen tells old new) r
          (subst (λ (v : List ℕ). EndsAtSeals 0 ns v (seen tells old new) r) c.digest_of_values-values.ensures
          (unsealed_on values tells old mid new 0 x.told (λ told j from below. seals_stay (length gs) (tells old) (tells mid) few x.frame told j below) 0 ns r (omega arith) low x.steady (subst (λ (l : List (List ℕ)). EndsAtSeals 0 l values (seen tells mid new) r) is c.in-Err-hold_all.ensures.err)));
      passed = recover_sealed core tells old mid new (length gs) few x.told others 0 gs (omega (arith, few)) x.passed;
      seals = seals;
      compared = inl x.agreed;
    }

pub returns-in-Ok-hold_all-clause-opens : goal.returns-in-Ok-hold_all-clause-opens
returns-in-Ok-hold_all-clause-opens g c =
    let core = c.args.ruled.core in
    let gs = c.args.ruled.groups in
    let tells = g.S.Store.state in
    let old = c.args.store.now in
    let mid = c.start_groups.new.store in
    let new = c.hold_all.new.store in
    let x = c.in-Ok.ensures in
    let is = c.as_slice.ensures.value ∙ x.called in
    let long : length c.as_slice.result.now ≡ length gs = ap length is ∙ length-map gs journal_of in
    let others : OnlySeals 0 (length gs) (tells mid) (tells new) = subst (λ (n : ℕ). OnlySeals 0 n (tells mid) (tells new)) long c.hold_all.ensures.others in
    let works = c.hold_all.ensures.works in
    record {
      told = works.told ∙ x.told;
      others = only_first (length gs) (tells old) (tells mid) (tells new) x.told x.frame others;
      calls = λ told. (let a = x.calls told in let b = works.calls (subst IsTrue (sym x.told) told) in omega (arith, a, b, long));
    }

pub returns-in-Err-hold_all-clause-opens : goal.returns-in-Err-hold_all-clause-opens
returns-in-Err-hold_all-clause-opens g c =
    let core = c.args.ruled.core in
    let gs = c.args.ruled.groups in
    let tells = g.S.Store.state in
    let old = c.args.store.now in
    let mid = c.start_groups.new.store in
    let new = c.hold_all.new.store in
    let x = c.in-Ok.ensures in
    let is = c.as_slice.ensures.value ∙ x.called in
    let long : length c.as_slice.result.now ≡ length gs = ap length is ∙ length-map gs journal_of in
    let others : OnlySeals 0 (length gs) (tells mid) (tells new) = subst (λ (n : ℕ). OnlySeals 0 n (tells mid) (tells new)) long c.hold_all.ensures.others in
    let works = c.hold_all.ensures.works in
    record {
      told = works.told ∙ x.told;
      others = only_first (length gs) (tells old) (tells mid) (tells new) x.told x.frame others;
      calls = λ told. (let a = x.calls told in let b = works.calls (subst IsTrue (sym x.told) told) in omega (arith, a, b, long));
    }
