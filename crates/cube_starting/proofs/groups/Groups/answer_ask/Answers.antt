use Rattle.std.proofs.Common.{◌≡◌, sym, ◌∙◌, subst, [], ◌∷◌, ◌++◌}
use Rattle.cube_model.specs.declared.outcome.Outcome.TheVariants.{Given, NoMemory}
use Rattle.cube_io.specs.Desks.{has_fault, most_calls}
use Rattle.cube_io.specs.Told.{Works}
use Rattle.cube_io.proofs.Outcomes.{last_outcome, works_more}
use Rattle.cube_engine.specs.Steps.{manner}
use Rattle.cube_starting.specs.NamedBooks.{Groups, rooms_of, dims_of, any_failed}
use Rattle.cube_starting.proofs.groups.Groups.answer_ask.Goals as goal

pub returns-clause-untouched : goal.returns-clause-untouched
returns-clause-untouched g c =
    subst (λ (e : Groups). (manner (dims_of e.books)).next (rooms_of e.books) c.args.ask.now Given ≡ rooms_of e.books → c.answer_by-reply.new.store ≡ c.args.store.now) c.self.view_is c.answer_by-reply.ensures.untouched

pub returns-clause-works : goal.returns-clause-works
returns-clause-works g c =
    let x = c.self.inside in
    let before = g.S.Store.state c.args.store.now in
    let now = g.S.Store.state c.answer_by-reply.new.store in
    subst (λ (e : Groups). Works before now (most_calls e.outcomes)) c.self.view_is
    (works_more (any_failed x.books.items) (has_fault x.turns.outcomes) before now c.self.invariant.1 c.answer_by-reply.ensures.turn.works)

pub returns-clause-memory : goal.returns-clause-memory
returns-clause-memory g c =
    let x = c.self.inside in
    let s = c.answer_by-reply in
    subst (λ (e : Groups). c.record.new.self.outcomes ≡ e.outcomes ++ NoMemory ∷ [] → s.new.store ≡ c.args.store.now) c.self.view_is
    (λ none. s.ensures.memory (last_outcome x.turns.outcomes s.result.1 NoMemory (sym c.record.ensures.outcomes ∙ none)))
