use Rattle.std.proofs.Common.{refl}
use Rattle.cube_starting.specs.declared.named.NamedBook.{NamedBook}
use Rattle.cube_starting.proofs.Turning.{turned, leaving}
use Rattle.cube_starting.proofs.groups.answer_at.Goals as goal

pub returns-clause-turn : goal.returns-clause-turn
returns-clause-turn g c =
    let old = c.index_mut.result.now in
    let new : NamedBook = record { name = old.name; book = c.answer.new.self } in
    turned c.args.books.now.items old new c.args.place c.args.ask.now c.answer.result.0 c.answer.result.1 (g.S.Store.state c.args.store.now) (g.S.Store.state c.answer.new.store) c.requires.order c.requires.place c.index_mut.ensures.value refl c.answer.ensures.answers c.requires.kept

pub returns-clause-untouched : goal.returns-clause-untouched
returns-clause-untouched g c = λ same.
    let old = c.index_mut.result.now in
    let new : NamedBook = record { name = old.name; book = c.answer.new.self } in
    c.answer.ensures.untouched (leaving c.args.books.now.items old new c.args.place c.args.ask.now c.answer.result.0 c.answer.result.1 (g.S.Store.state c.args.store.now) (g.S.Store.state c.answer.new.store) c.requires.order c.requires.place c.index_mut.ensures.value refl c.answer.ensures.answers same)
