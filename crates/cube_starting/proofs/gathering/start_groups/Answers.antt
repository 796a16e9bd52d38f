use Rattle.std.proofs.Common.{◌≡◌, ◌∙◌, ◌++◌, ℕ, List, [], length, map, sym, ap, subst, arith}
use Rattle.cube_model.specs.Cores.{Core}
use Rattle.cube_model.specs.Cubes.{Each}
use Rattle.cube_model.specs.Policies.{IsPolicy}
use Rattle.cube_io.specs.Seen.{seen}
use Rattle.cube_starting.specs.Grouping.{AllRecover, AreStarted, EndsAtSeals, RestUnstarted, journal_of}
use Rattle.cube_starting.specs.NamedBooks.{Groups}
use Rattle.cube_opening.specs.declared.ruling.RuledGroup.{RuledGroup}
use Rattle.cube_starting.specs.declared.named.NamedBook.{NamedBook}
use Rattle.cube_starting.proofs.Gathered.{at_rest, none_recover, recover_on, started_on, unsealed_groups, unstarted_on}
use Rattle.cube_starting.proofs.gathering.start_groups.Goals as goal

pub returns-in-Err-clause-passed : goal.returns-in-Err-clause-passed
returns-in-Err-clause-passed g c = none_recover c.args.ruled.core g.S.Store.state c.args.store.now c.approach_all.new.store 0 c.args.ruled.groups (λ i e told. c.approach_all.ensures.logs told i)

pub returns-in-Err-clause-err : goal.returns-in-Err-clause-err
returns-in-Err-clause-err g c =
    let store = seen g.S.Store.state c.args.store.now c.approach_all.new.store in
    unsealed_groups c.args.ruled.core c.args.ruled.groups store c.in-Err.report
    (subst (λ (v : List ℕ). EndsAtSeals 0 (map journal_of c.args.ruled.groups) v store c.in-Err.report) c.requires.values
    (subst (λ (gs : List RuledGroup). EndsAtSeals 0 (map journal_of gs) c.args.values.now store c.in-Err.report) c.as_slice.ensures c.in-Err.ensures.err))

pub returns-in_default-clause-passed : goal.returns-in_default-clause-passed
returns-in_default-clause-passed g c = none_recover c.args.ruled.core g.S.Store.state c.args.store.now c.approach_all.new.store 0 c.args.ruled.groups (λ i e told. c.approach_all.ensures.logs told i)

pub returns-in_default-new-clause-passed : goal.returns-in_default-new-clause-passed
returns-in_default-new-clause-passed g c = none_recover c.args.ruled.core g.S.Store.state c.args.store.now c.approach_all.new.store 0 c.args.ruled.groups (λ i e told. c.approach_all.ensures.logs told i)

pub add_rest-requires-clause-policies : goal.add_rest-requires-clause-policies
add_rest-requires-clause-policies g c = subst (λ (k : Core). Each (λ y. IsPolicy k.dims y.policy) c.args.ruled.groups) (sym c.in-Ok-new-2.ensures) c.requires.groups.policies

pub returns-in-Ok-add_rest-clause-ok : goal.returns-in-Ok-add_rest-clause-ok
returns-in-Ok-add_rest-clause-ok g c =
    let tells = g.S.Store.state in
    let old = c.args.store.now in
    let mid = c.approach_all.new.store in
    let new = c.add_rest.new.store in
    let gs = c.args.ruled.groups in
    let empty : c.in-Ok-new.groups.books ≡ [] = ap (λ (x : Groups). x.books) c.in-Ok-new.ensures in
    let h = c.in-Ok-add_rest.ensures.ok in
    let is : c.in-Ok-add_rest.opened.value.books ≡ h.0 = h.1 ∙ ap (λ (l : List NamedBook). l ++ h.0) empty in
    let here = subst (λ (k : Core). AreStarted k (seen tells mid new) 0 gs h.0) c.in-Ok-new-2.ensures (subst (λ (l : List NamedBook). AreStarted c.in-Ok-new-2.shared (seen tells mid new) (length l) gs h.0) empty h.2) in
    subst (AreStarted c.args.ruled.core (seen tells old new) 0 gs) (sym is) (started_on c.args.ruled.core tells old mid new 0 c.approach_all.ensures.told (λ told i e. c.approach_all.ensures.logs told i) 0 (omega arith) gs h.0 here)

pub returns-in-Err-add_rest-clause-err : goal.returns-in-Err-add_rest-clause-err
returns-in-Err-add_rest-clause-err g c =
    let tells = g.S.Store.state in
    let old = c.args.store.now in
    let mid = c.approach_all.new.store in
    let new = c.add_rest.new.store in
    let shared = c.in-Ok-new-2.shared in
    let gs = c.args.ruled.groups in
    let r = c.in-Err-add_rest.report in
    let empty : c.in-Ok-new.groups.books ≡ [] = ap (λ (x : Groups). x.books) c.in-Ok-new.ensures in
    let here = subst (λ (k : Core). RestUnstarted k 0 gs (seen tells mid new) r) c.in-Ok-new-2.ensures (subst (λ (l : List NamedBook). RestUnstarted shared (length l) gs (seen tells mid new) r) empty c.in-Err-add_rest.ensures.err) in
    at_rest c.args.ruled.core gs (seen tells old new) r (unstarted_on c.args.ruled.core tells old mid new 0 c.approach_all.ensures.told (λ told i e. c.approach_all.ensures.logs told i) gs r c.in-Ok.ensures.steady here)

pub returns-in-Ok-add_rest-clause-passed : goal.returns-in-Ok-add_rest-clause-passed
returns-in-Ok-add_rest-clause-passed g c =
    let tells = g.S.Store.state in
    let old = c.args.store.now in
    let mid = c.approach_all.new.store in
    let new = c.add_rest.new.store in
    let shared = c.in-Ok-new-2.shared in
    let gs = c.args.ruled.groups in
    let empty : c.in-Ok-new.groups.books ≡ [] = ap (λ (x : Groups). x.books) c.in-Ok-new.ensures in
    let here = subst (λ (k : Core). AllRecover k 0 gs (seen tells mid new)) c.in-Ok-new-2.ensures (subst (λ (l : List NamedBook). AllRecover shared (length l) gs (seen tells mid new)) empty c.in-Ok-add_rest.ensures.passed) in
    recover_on c.args.ruled.core tells old mid new 0 c.approach_all.ensures.told (λ told i e. c.approach_all.ensures.logs told i) 0 (omega arith) gs here

pub returns-in-Err-add_rest-clause-passed : goal.returns-in-Err-add_rest-clause-passed
returns-in-Err-add_rest-clause-passed g c =
    let tells = g.S.Store.state in
    let old = c.args.store.now in
    let mid = c.approach_all.new.store in
    let new = c.add_rest.new.store in
    let shared = c.in-Ok-new-2.shared in
    let gs = c.args.ruled.groups in
    let empty : c.in-Ok-new.groups.books ≡ [] = ap (λ (x : Groups). x.books) c.in-Ok-new.ensures in
    let here = subst (λ (k : Core). AllRecover k 0 gs (seen tells mid new)) c.in-Ok-new-2.ensures (subst (λ (l : List NamedBook). AllRecover shared (length l) gs (seen tells mid new)) empty c.in-Err-add_rest.ensures.passed) in
    recover_on c.args.ruled.core tells old mid new 0 c.approach_all.ensures.told (λ told i e. c.approach_all.ensures.logs told i) 0 (omega arith) gs here
