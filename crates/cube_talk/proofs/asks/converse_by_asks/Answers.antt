use Rattle.std.proofs.lemmas.Bool.{false≢true}
use Rattle.std.proofs.Common.{◌≡◌, List, length, sym, subst, ap, ◌∙◌}
use Rattle.cube_model.specs.declared.outcome.Outcome.{Outcome}
use Rattle.cube_io.specs.Causes.{RoseBy}
use Rattle.cube_io.specs.Desks.{faults_in}
use Rattle.cube_talk.specs.Asks.{FailedFresh, rooms_behind}
use Rattle.cube_talk.specs.Crashes.{Survives}
use Rattle.cube_talk.specs.Moments.{moment}
use Rattle.cube_io.specs.Desks.{entries}
use Rattle.cube_talk.specs.Crashes.{AnswersDurably}
use Rattle.cube_talk.proofs.Puttings.{permits_by}
use Rattle.cube_talk.proofs.AskTalk.{added_are, said_of}
use Rattle.cube_talk.proofs.asks.converse_by_asks.Goals as goal

pub returns-clause-talked : goal.returns-clause-talked
returns-clause-talked g c =
    let v = c.converse-end.ensures.conversed in
    let x = moment g.D.Desk.manner g.D.Desk.rooms g.D.Desk.outcomes g.D.Desk.capacity g.D.Desk.exact g.D.Desk.within c.args.desk (g.S.Store.state c.args.store.now) in
    let y = moment g.D.Desk.manner g.D.Desk.rooms g.D.Desk.outcomes g.D.Desk.capacity g.D.Desk.exact g.D.Desk.within c.converse-end.new.responder.desk (g.S.Store.state c.converse-end.new.store) in
    let a = v.answered.0 in
    let same = added_are x y v.took.first v.said c.requires.fresh a in
    record {
      talked = record {
        took = v.took;
        matched = ap length same ∙ a.matched;
        says = said_of c.converse-end.result.ending x y v.took.text v.said v.took.first v.took.more (g.O.Sink.state c.args.out.now).written (g.O.Sink.state c.converse-end.new.out).written (λ e. false≢true (c.converse-end.ensures.memory e)) c.requires.fresh v.took.split a v.puts v.goes;
      };
      rooms_are = a.rooms_are ∙ ap (λ (os : List Outcome). rooms_behind x.manner x.rooms v.took.first os) (sym same);
      survives = subst (λ (os : List Outcome). Survives x y v.took.first os) (sym same) v.answered.1;
      steady = subst (λ (os : List Outcome). faults_in os ≡ 0 → y.store.faults ≡ x.store.faults) (sym same) a.steady;
      risen = subst (λ (os : List Outcome). RoseBy (faults_in os) x.store.faults y.store.faults) (sym same) a.risen;
      fresh = subst (λ (os : List Outcome). FailedFresh x.manner x.rooms v.took.first os) (sym same) a.fresh;
    }

pub returns-clause-later : goal.returns-clause-later
returns-clause-later g c = c.converse-end.ensures.conversed.answered.0.later

pub converse-end-requires-clause-permits : goal.converse-end-requires-clause-permits
converse-end-requires-clause-permits g c =
    let at = moment g.D.Desk.manner g.D.Desk.rooms g.D.Desk.outcomes g.D.Desk.capacity g.D.Desk.exact g.D.Desk.within in
    permits_by (λ x. x.desk) (λ d s ls e t text. AnswersDurably (at d (g.S.Store.state s)) (at e (g.S.Store.state t)) ls text) (λ d. entries (g.D.Desk.rooms d)) g.S.Store.state g.O.Sink.allows (record { desk = c.args.desk }) c.args.store.now
    (g.O.Sink.state c.args.out.now).written c.requires.permits
