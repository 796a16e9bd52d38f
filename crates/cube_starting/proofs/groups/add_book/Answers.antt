use Rattle.std.proofs.Common.{◌∙◌, ℕ, ap, sym, subst}
use Rattle.cube_model.specs.Cores.{Core}
use Rattle.cube_model.specs.Cubes.{Each}
use Rattle.cube_engine.specs.Kept.{IsKept}
use Rattle.cube_starting.specs.NamedBooks.{IsKeptIn, AreInOrder}
use Rattle.cube_starting.proofs.Adding.{order_more, kept_still, kept_more}
use Rattle.cube_starting.proofs.groups.add_book.Goals as goal

pub returns-in-Err-clause-kept : goal.returns-in-Err-clause-kept
returns-in-Err-clause-kept g c = λ told.
    let before = (g.S.Store.state c.args.store.now).logs in
    let now = (g.S.Store.state c.start.new.store).logs in
    kept_still c.args.books.now.items before now c.requires.order.numbered (λ k other. c.start.ensures.others told k (λ e. other (e ∙ c.next_log-log.ensures))) (c.requires.kept told)

pub returns-in-Ok-push_book-clause-order : goal.returns-in-Ok-push_book-clause-order
returns-in-Ok-push_book-clause-order g c =
    subst AreInOrder (sym c.in-Ok-push_book.ensures.ok)
    (order_more c.args.books.now.items c.args.name c.in-Ok.book c.args.core.dims c.requires.order c.requires.few c.requires.free c.requires.alike (ap (λ (k : Core). k.dims) c.in-Ok.ensures.core) c.in-Ok.ensures.none (c.in-Ok.ensures.log ∙ c.next_log-log.ensures))

pub returns-in-Ok-push_book-clause-kept : goal.returns-in-Ok-push_book-clause-kept
returns-in-Ok-push_book-clause-kept g c = λ told.
    let before = (g.S.Store.state c.args.store.now).logs in
    let now = (g.S.Store.state c.start.new.store).logs in
    let b = c.in-Ok.book in
    subst (Each (IsKeptIn now)) (sym c.in-Ok-push_book.ensures.ok)
    (kept_more c.args.books.now.items before now c.requires.order.numbered (λ k other. c.start.ensures.others told k (λ e. other (e ∙ c.next_log-log.ensures))) (c.requires.kept told)
    c.args.name b c.args.core c.args.policy c.in-Ok.ensures.core c.in-Ok.ensures.policy (c.in-Ok.ensures.log ∙ c.next_log-log.ensures)
    (subst (λ (n : ℕ). IsKept c.args.core c.args.policy b.history b.journal (now n).state) c.next_log-log.ensures (c.in-Ok.ensures.kept told)))

pub returns-in-Err-push_book-clause-kept : goal.returns-in-Err-push_book-clause-kept
returns-in-Err-push_book-clause-kept g c = λ told.
    let before = (g.S.Store.state c.args.store.now).logs in
    let now = (g.S.Store.state c.start.new.store).logs in
    subst (Each (IsKeptIn now)) (sym c.in-Err-push_book.ensures.err)
    (kept_still c.args.books.now.items before now c.requires.order.numbered (λ k other. c.start.ensures.others told k (λ e. other (e ∙ c.next_log-log.ensures))) (c.requires.kept told))
