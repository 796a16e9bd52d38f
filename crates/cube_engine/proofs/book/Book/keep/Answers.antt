use Rattle.std.proofs.Common.{◌≡◌, ◌+◌, List, [], ◌∷◌, ◌++◌, length, Option, Some, inl, inr, IsTrue, ap, sym, ◌∙◌, subst, arith}
use Rattle.cube_model.specs.declared.entry.Entry.{Entry}
use Rattle.cube_model.specs.declared.entry.Entry.TheVariants.{Asked}
use Rattle.cube_model.specs.declared.request.Request.{Request}
use Rattle.cube_model.specs.Entries.{requests}
use Rattle.cube_admit.proofs.Standing.{requests-push}
use Rattle.cube_io.specs.Desks.{LeavesAll, IsOneOf}
use Rattle.cube_io.specs.States.{Gained}
use Rattle.cube_rollup.specs.Rollups.{entry_of}
use Rattle.cube_engine.specs.Books.{Book, Holding, IsWaiting, entry_waiting}
use Rattle.cube_engine.specs.Kept.{IsKept, GivesHistory, IsExact, IsWithin}
use Rattle.cube_engine.proofs.Logs.{has_entered, keep_crash, keep_done, keep_exact, keep_failed, keep_in_hand}
use Rattle.cube_engine.proofs.book.Book.keep.Goals as goal

pub invariant_of-self : goal.invariant_of-self
invariant_of-self g c =
    let x = c.self.inside in
    let r = c.requires.waits.request in
    let waits : x.holding.waiting ≡ Some r = ap (λ (b : Book). b.waiting) c.self.view_is ∙ c.requires.waits.waits in
    let grown : c.commit.new.self.history ≡ x.holding.history ++ Asked r ∷ [] = has_entered x.holding c.commit.new.self r c.commit.ensures waits in
    let more : length (requests c.commit.new.self.history) ≡ length (requests x.holding.history) + 1 = ap (λ (h : List Entry). length (requests h)) grown ∙ requests-push x.holding.history r in
    let longer = c.in-Ok.ensures.longer in
    let short = c.as_slice-short.ensures.short in
    let before = c.self.invariant in
    omega (arith, more, longer, short, before)

pub returns-in-Ok-clause-kept : goal.returns-in-Ok-clause-kept
returns-in-Ok-clause-kept g c =
    let x = c.self.inside in
    let kept = subst (λ (b : Book). IsTrue (g.S.Store.state c.args.store.now).told → IsKept b.core b.policy b.history b.journal ((g.S.Store.state c.args.store.now).logs b.journal.log).state) (sym c.self.view_is) c.requires.kept in
    let holds = subst (λ (b : Book). IsWaiting b c.args.line.now) (sym c.self.view_is) c.requires.waits in
    let grown : x.holding.history ++ Asked holds.request ∷ [] ≡ c.commit.new.self.history = sym (has_entered x.holding c.commit.new.self holds.request c.commit.ensures holds.waits) in
    subst (λ (b : Book). IsTrue (g.S.Store.state c.args.store.now).told → IsKept b.core b.policy c.commit.new.self.history c.keep.new.self ((g.S.Store.state c.keep.new.store).logs b.journal.log).state) c.self.view_is
    (λ told. subst (λ (h : List Entry). IsKept x.holding.core x.holding.policy h c.keep.new.self ((g.S.Store.state c.keep.new.store).logs x.journal.log).state) grown
    (keep_done x.holding.core x.holding.policy x.holding.history x.journal c.keep.new.self ((g.S.Store.state c.args.store.now).logs x.journal.log).state ((g.S.Store.state c.keep.new.store).logs x.journal.log).state holds.request c.args.line.now c.core-rules.ensures.rules.dims (kept told) holds.may holds.is_line (c.keep.ensures.fits told) (c.in-Ok.ensures.ok told)))

pub returns-in-Ok-clause-exact : goal.returns-in-Ok-clause-exact
returns-in-Ok-clause-exact g c =
    let x = c.self.inside in
    let kept = subst (λ (b : Book). IsTrue (g.S.Store.state c.args.store.now).told → IsKept b.core b.policy b.history b.journal ((g.S.Store.state c.args.store.now).logs b.journal.log).state) (sym c.self.view_is) c.requires.kept in
    let holds = subst (λ (b : Book). IsWaiting b c.args.line.now) (sym c.self.view_is) c.requires.waits in
    let grown : x.holding.history ++ Asked holds.request ∷ [] ≡ c.commit.new.self.history = sym (has_entered x.holding c.commit.new.self holds.request c.commit.ensures holds.waits) in
    subst (λ (b : Book). IsTrue (g.S.Store.state c.args.store.now).told → IsExact b.core b.policy c.commit.new.self.history ((g.S.Store.state c.keep.new.store).logs b.journal.log).state) c.self.view_is
    (λ told. subst (λ (h : List Entry). IsExact x.holding.core x.holding.policy h ((g.S.Store.state c.keep.new.store).logs x.journal.log).state) grown
    (keep_exact x.holding.core x.holding.policy x.holding.history x.journal ((g.S.Store.state c.args.store.now).logs x.journal.log).state ((g.S.Store.state c.keep.new.store).logs x.journal.log).state holds.request c.args.line.now c.core-rules.ensures.rules.dims (kept told) holds.may holds.is_line (c.in-Ok.ensures.ok told)))

pub returns-in-Ok-clause-crash : goal.returns-in-Ok-clause-crash
returns-in-Ok-clause-crash g c =
    let x = c.self.inside in
    let kept = subst (λ (b : Book). IsTrue (g.S.Store.state c.args.store.now).told → IsKept b.core b.policy b.history b.journal ((g.S.Store.state c.args.store.now).logs b.journal.log).state) (sym c.self.view_is) c.requires.kept in
    let holds = subst (λ (b : Book). IsWaiting b c.args.line.now) (sym c.self.view_is) c.requires.waits in
    subst (λ (b : Book). IsTrue (g.S.Store.state c.args.store.now).told → Gained (IsWithin b.core b.policy b.history) ((g.S.Store.state c.args.store.now).logs b.journal.log) ((g.S.Store.state c.keep.new.store).logs b.journal.log)) c.self.view_is
    (λ told. keep_crash x.holding.core x.holding.policy x.holding.history x.journal ((g.S.Store.state c.args.store.now).logs x.journal.log) ((g.S.Store.state c.keep.new.store).logs x.journal.log) holds.request c.args.line.now c.core-rules.ensures.rules.dims (kept told) holds.may holds.is_line (c.keep.ensures.states told))

pub returns-in-Err-clause-kept : goal.returns-in-Err-clause-kept
returns-in-Err-clause-kept g c =
    let x = c.self.inside in
    let kept = subst (λ (b : Book). IsTrue (g.S.Store.state c.args.store.now).told → IsKept b.core b.policy b.history b.journal ((g.S.Store.state c.args.store.now).logs b.journal.log).state) (sym c.self.view_is) c.requires.kept in
    let holds = subst (λ (b : Book). IsWaiting b c.args.line.now) (sym c.self.view_is) c.requires.waits in
    subst (λ (b : Book). IsTrue (g.S.Store.state c.args.store.now).told → IsKept b.core b.policy c.let_go.new.self.history c.keep.new.self ((g.S.Store.state c.keep.new.store).logs b.journal.log).state) c.self.view_is
    (λ told. subst (λ (h : List Entry). IsKept x.holding.core x.holding.policy h c.keep.new.self ((g.S.Store.state c.keep.new.store).logs x.journal.log).state) (sym (ap (λ (b : Holding). b.history) c.let_go.ensures))
    (keep_failed x.holding.core x.holding.policy x.holding.history x.journal c.keep.new.self ((g.S.Store.state c.args.store.now).logs x.journal.log).state ((g.S.Store.state c.keep.new.store).logs x.journal.log).state holds.request c.args.line.now (kept told) holds.may holds.is_line (c.keep.ensures.fits told) (c.in-Err.ensures.err told)))

pub returns-in-Err-clause-crash : goal.returns-in-Err-clause-crash
returns-in-Err-clause-crash g c =
    let x = c.self.inside in
    let kept = subst (λ (b : Book). IsTrue (g.S.Store.state c.args.store.now).told → IsKept b.core b.policy b.history b.journal ((g.S.Store.state c.args.store.now).logs b.journal.log).state) (sym c.self.view_is) c.requires.kept in
    let holds = subst (λ (b : Book). IsWaiting b c.args.line.now) (sym c.self.view_is) c.requires.waits in
    subst (λ (b : Book). IsTrue (g.S.Store.state c.args.store.now).told → Gained (IsWithin b.core b.policy b.history) ((g.S.Store.state c.args.store.now).logs b.journal.log) ((g.S.Store.state c.keep.new.store).logs b.journal.log)) c.self.view_is
    (λ told. keep_crash x.holding.core x.holding.policy x.holding.history x.journal ((g.S.Store.state c.args.store.now).logs x.journal.log) ((g.S.Store.state c.keep.new.store).logs x.journal.log) holds.request c.args.line.now c.core-rules.ensures.rules.dims (kept told) holds.may holds.is_line (c.keep.ensures.states told))

pub returns-in-Ok-clause-in_hand : goal.returns-in-Ok-clause-in_hand
returns-in-Ok-clause-in_hand g c =
    let x = c.self.inside in
    let kept = subst (λ (b : Book). IsTrue (g.S.Store.state c.args.store.now).told → IsKept b.core b.policy b.history b.journal ((g.S.Store.state c.args.store.now).logs b.journal.log).state) (sym c.self.view_is) c.requires.kept in
    let holds = subst (λ (b : Book). IsWaiting b c.args.line.now) (sym c.self.view_is) c.requires.waits in
    subst (λ (b : Book). IsTrue (g.S.Store.state c.args.store.now).told → LeavesAll (GivesHistory b.core b.policy) (IsOneOf b.history (b.history ++ entry_waiting b)) ((g.S.Store.state c.args.store.now).logs b.journal.log) ((g.S.Store.state c.keep.new.store).logs b.journal.log)) c.self.view_is
    (λ told. subst (λ (o : Option Request). LeavesAll (GivesHistory x.holding.core x.holding.policy) (IsOneOf x.holding.history (x.holding.history ++ entry_of o)) ((g.S.Store.state c.args.store.now).logs x.journal.log) ((g.S.Store.state c.keep.new.store).logs x.journal.log)) (sym holds.waits)
    (keep_in_hand x.holding.core x.holding.policy x.holding.history x.journal ((g.S.Store.state c.args.store.now).logs x.journal.log) ((g.S.Store.state c.keep.new.store).logs x.journal.log) holds.request c.args.line.now c.core-rules.ensures.rules.dims (kept told) holds.may holds.is_line (c.keep.ensures.states told) (inr (c.in-Ok.ensures.ok told))))

pub returns-in-Err-clause-in_hand : goal.returns-in-Err-clause-in_hand
returns-in-Err-clause-in_hand g c =
    let x = c.self.inside in
    let kept = subst (λ (b : Book). IsTrue (g.S.Store.state c.args.store.now).told → IsKept b.core b.policy b.history b.journal ((g.S.Store.state c.args.store.now).logs b.journal.log).state) (sym c.self.view_is) c.requires.kept in
    let holds = subst (λ (b : Book). IsWaiting b c.args.line.now) (sym c.self.view_is) c.requires.waits in
    subst (λ (b : Book). IsTrue (g.S.Store.state c.args.store.now).told → LeavesAll (GivesHistory b.core b.policy) (IsOneOf b.history (b.history ++ entry_waiting b)) ((g.S.Store.state c.args.store.now).logs b.journal.log) ((g.S.Store.state c.keep.new.store).logs b.journal.log)) c.self.view_is
    (λ told. subst (λ (o : Option Request). LeavesAll (GivesHistory x.holding.core x.holding.policy) (IsOneOf x.holding.history (x.holding.history ++ entry_of o)) ((g.S.Store.state c.args.store.now).logs x.journal.log) ((g.S.Store.state c.keep.new.store).logs x.journal.log)) (sym holds.waits)
    (keep_in_hand x.holding.core x.holding.policy x.holding.history x.journal ((g.S.Store.state c.args.store.now).logs x.journal.log) ((g.S.Store.state c.keep.new.store).logs x.journal.log) holds.request c.args.line.now c.core-rules.ensures.rules.dims (kept told) holds.may holds.is_line (c.keep.ensures.states told) (inl (c.in-Err.ensures.err told))))
