use Rattle.std.proofs.Common.{◌≡◌, ◌∙◌, ◌≤◌, ◌<◌, ◌+◌, inr, suc, ℕ, List, refl, ◌∷◌, ◌++◌, length, map, append_assoc, ap, subst, sym, arith, IsTrue}
use Rattle.cube_model.specs.Cubes.{Each}
use Rattle.cube_model.specs.Policies.{IsPolicy}
use Rattle.cube_groups.specs.Rules.{AreNew}
use Rattle.cube_io.specs.Seen.{seen}
use Rattle.cube_opening.specs.declared.ruling.RuledGroup.{RuledGroup}
use Rattle.cube_opening.proofs.Behind.{if_ok, if_err}
use Rattle.cube_starting.specs.Grouping.{AllRecover, AreStarted, OnlyFrom, RestUnstarted}
use Rattle.cube_starting.specs.declared.named.NamedBook.{NamedBook}
use Rattle.cube_starting.proofs.Gathered.{first_of, frame_more, grown, none_recover, recover_more, started_more, unstarted_more}
use Rattle.cube_starting.proofs.gathering.+add_rest.Goals as goal

pub returns-in-Err-clause-passed : goal.returns-in-Err-clause-passed
returns-in-Err-clause-passed g t c =
    let tells = g.S.Store.state in
    let old = c.args.store.now in
    let new = c.add_group.new.store in
    let k = length c.args.groups.books in
    let whole = first_of c.args.rest c.into_vec-rest.result.items c.remove-group.new.self.items c.remove-group.new.self.items c.remove-group.result c.into_vec-rest.ensures (sym c.is_empty.ensures ∙ c.if-is_empty.false) c.remove-group.ensures.value c.remove-group.ensures.by_index.2 refl in
    subst (λ (gs : List RuledGroup). AllRecover c.args.core.now k gs (seen tells old new)) whole
    (c.in-Err.ensures.passed.0, none_recover c.args.core.now tells old new (suc k) c.remove-group.new.self.items (λ i e told. c.in-Err.ensures.frame told i (inr (omega (arith, e)))))

pub add_rest-requires : goal.add_rest-requires
add_rest-requires g t c κs within =
    let core = c.args.core.now in
    let bs = c.args.groups.books in
    let x = c.in-Ok.ensures in
    let gd = c.remove-group.result in
    let gs = c.from_vec.result in
    let whole : gd ∷ gs ≡ c.args.rest = first_of c.args.rest c.into_vec-rest.result.items c.remove-group.new.self.items gs c.remove-group.result c.into_vec-rest.ensures (sym c.is_empty.ensures ∙ c.if-is_empty.false) c.remove-group.ensures.value c.remove-group.ensures.by_index.2 c.from_vec.ensures in
    let long : suc (length gs) ≡ length c.args.rest = ap (λ (l : List RuledGroup). length l) whole in
    let old = seen g.S.Store.state c.args.store.now c.add_group.new.store in
    let more = grown core old (length bs) gd bs c.in-Ok.opened.value.books x.ok.0 x.ok.1 x.ok.2 in
    let short = subst (λ (l : List RuledGroup). Each (λ y. length y.name ≤ 32) l) (sym whole) c.requires.short in
    let policies = subst (λ (l : List RuledGroup). Each (λ y. IsPolicy core.dims y.policy) l) (sym whole) c.requires.policies in
    let names = subst (λ (l : List RuledGroup). AreNew (map (λ (b : NamedBook). b.name) bs) (map (λ (y : RuledGroup). y.name) l)) (sym whole) c.requires.new in
    let falls : length gs < t = (let d = c.decreases in omega (arith, d, long)) in
    let few : length c.in-Ok.opened.value.books + length gs ≤ 16 = (let f = c.requires.few in let l = more.longer in omega (arith, f, l, long)) in
    (falls, (within, (x.message, (few, (short.1, (subst (λ (ns : List (List ℕ)). AreNew ns (map (λ (y : RuledGroup). y.name) gs)) (sym more.names) names.1, (more.alike c.requires.alike, (policies.1, (x.gathers.attached, λ told. x.kept (subst IsTrue x.gathers.told told))))))))))

pub returns-clause-ok : goal.returns-clause-ok
returns-clause-ok g t c =
    let core = c.args.core.now in
    let tells = g.S.Store.state in
    let old = c.args.store.now in
    let mid = c.add_group.new.store in
    let new = c.add_rest.new.store in
    let bs = c.args.groups.books in
    let k = length bs in
    let x = c.in-Ok.ensures in
    let gd = c.remove-group.result in
    let gs = c.from_vec.result in
    let whole : gd ∷ gs ≡ c.args.rest = first_of c.args.rest c.into_vec-rest.result.items c.remove-group.new.self.items gs c.remove-group.result c.into_vec-rest.ensures (sym c.is_empty.ensures ∙ c.if-is_empty.false) c.remove-group.ensures.value c.remove-group.ensures.by_index.2 c.from_vec.ensures in
    let more = grown core (seen tells old mid) k gd bs c.in-Ok.opened.value.books x.ok.0 x.ok.1 x.ok.2 in
    let then : OnlyFrom (suc k) (length gs) (tells mid) (tells new) = subst (λ (n : ℕ). OnlyFrom n (length gs) (tells mid) (tells new)) more.longer c.add_rest.ensures.frame in
    if_ok _ _ c.add_rest.result (λ o h. (
      x.ok.0 ++ h.0,
      h.1 ∙ ap (λ (l : List NamedBook). l ++ h.0) x.ok.1 ∙ append_assoc bs x.ok.0 h.0,
      subst (λ (l : List RuledGroup). AreStarted core (seen tells old new) k l (x.ok.0 ++ h.0)) whole
          (started_more core tells old mid new k (length gs) x.gathers.told x.frame then gd gs x.ok.0 h.0 x.ok.2 (subst (λ (n : ℕ). AreStarted core (seen tells mid new) n gs h.0) more.longer h.2)),
    )) c.add_rest.ensures.ok

pub returns-clause-err : goal.returns-clause-err
returns-clause-err g t c =
    let core = c.args.core.now in
    let tells = g.S.Store.state in
    let old = c.args.store.now in
    let mid = c.add_group.new.store in
    let new = c.add_rest.new.store in
    let bs = c.args.groups.books in
    let k = length bs in
    let x = c.in-Ok.ensures in
    let gd = c.remove-group.result in
    let gs = c.from_vec.result in
    let whole : gd ∷ gs ≡ c.args.rest = first_of c.args.rest c.into_vec-rest.result.items c.remove-group.new.self.items gs c.remove-group.result c.into_vec-rest.ensures (sym c.is_empty.ensures ∙ c.if-is_empty.false) c.remove-group.ensures.value c.remove-group.ensures.by_index.2 c.from_vec.ensures in
    let more = grown core (seen tells old mid) k gd bs c.in-Ok.opened.value.books x.ok.0 x.ok.1 x.ok.2 in
    let then : OnlyFrom (suc k) (length gs) (tells mid) (tells new) = subst (λ (n : ℕ). OnlyFrom n (length gs) (tells mid) (tells new)) more.longer c.add_rest.ensures.frame in
    if_err _ _ c.add_rest.result (λ r h. subst (λ (l : List RuledGroup). RestUnstarted core k l (seen tells old new) r) whole
    (unstarted_more core tells old mid new k (length gs) x.gathers.told x.frame then gd gs x.ok.0 r x.ok.2 x.steady (subst (λ (n : ℕ). RestUnstarted core n gs (seen tells mid new) r) more.longer h))) c.add_rest.ensures.err

pub returns-clause-passed : goal.returns-clause-passed
returns-clause-passed g t c =
    let core = c.args.core.now in
    let tells = g.S.Store.state in
    let old = c.args.store.now in
    let mid = c.add_group.new.store in
    let new = c.add_rest.new.store in
    let bs = c.args.groups.books in
    let k = length bs in
    let x = c.in-Ok.ensures in
    let gd = c.remove-group.result in
    let gs = c.from_vec.result in
    let whole : gd ∷ gs ≡ c.args.rest = first_of c.args.rest c.into_vec-rest.result.items c.remove-group.new.self.items gs c.remove-group.result c.into_vec-rest.ensures (sym c.is_empty.ensures ∙ c.if-is_empty.false) c.remove-group.ensures.value c.remove-group.ensures.by_index.2 c.from_vec.ensures in
    let more = grown core (seen tells old mid) k gd bs c.in-Ok.opened.value.books x.ok.0 x.ok.1 x.ok.2 in
    let then : OnlyFrom (suc k) (length gs) (tells mid) (tells new) = subst (λ (n : ℕ). OnlyFrom n (length gs) (tells mid) (tells new)) more.longer c.add_rest.ensures.frame in
    subst (λ (l : List RuledGroup). AllRecover core k l (seen tells old new)) whole
    (recover_more core tells old mid new k (length gs) x.gathers.told x.frame then gd gs x.passed (subst (λ (n : ℕ). AllRecover core n gs (seen tells mid new)) more.longer c.add_rest.ensures.passed))

pub returns-clause-frame : goal.returns-clause-frame
returns-clause-frame g t c =
    let core = c.args.core.now in
    let tells = g.S.Store.state in
    let old = c.args.store.now in
    let mid = c.add_group.new.store in
    let new = c.add_rest.new.store in
    let bs = c.args.groups.books in
    let k = length bs in
    let x = c.in-Ok.ensures in
    let gd = c.remove-group.result in
    let gs = c.from_vec.result in
    let whole : gd ∷ gs ≡ c.args.rest = first_of c.args.rest c.into_vec-rest.result.items c.remove-group.new.self.items gs c.remove-group.result c.into_vec-rest.ensures (sym c.is_empty.ensures ∙ c.if-is_empty.false) c.remove-group.ensures.value c.remove-group.ensures.by_index.2 c.from_vec.ensures in
    let more = grown core (seen tells old mid) k gd bs c.in-Ok.opened.value.books x.ok.0 x.ok.1 x.ok.2 in
    let then : OnlyFrom (suc k) (length gs) (tells mid) (tells new) = subst (λ (n : ℕ). OnlyFrom n (length gs) (tells mid) (tells new)) more.longer c.add_rest.ensures.frame in
    subst (λ (l : List RuledGroup). OnlyFrom k (length l) (tells old) (tells new)) whole (frame_more core tells old mid new k (length gs) x.gathers.told x.frame then)
