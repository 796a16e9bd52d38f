use Rattle.std.proofs.Common.{subst, refl, ap, ℕ, IsTrue}
use Rattle.cube_io.specs.Desks.{Answered, GivesRooms, LeavesAll, IsOneOf}
use Rattle.cube_model.specs.declared.ask.Ask.{Ask}
use Rattle.cube_model.specs.declared.outcome.Outcome.TheVariants.{Given}
use Rattle.cube_talk.specs.Moments.{moment}
use Rattle.cube_talk.proofs.AskCrash.{one_serves, missed_serves}
use Rattle.cube_talk.proofs.asks.ask.Goals as goal

pub returns-in-Ok-clause-serves : goal.returns-in-Ok-clause-serves
returns-in-Ok-clause-serves g c =
    let x = moment g.D.Desk.manner g.D.Desk.rooms g.D.Desk.outcomes g.D.Desk.capacity g.D.Desk.exact g.D.Desk.within c.args.desk.now (g.S.Store.state c.args.store.now) in
    let y = moment g.D.Desk.manner g.D.Desk.rooms g.D.Desk.outcomes g.D.Desk.capacity g.D.Desk.exact g.D.Desk.within c.answer.new.self (g.S.Store.state c.answer.new.store) in
    let answered = subst (λ (a : Ask). Answered x.manner a x.rooms y.rooms x.outcomes y.outcomes x.store.faults y.store.faults c.answer.result) c.in-Ok.ensures c.answer.ensures.answered in
    let hand = subst
    (λ (a : Ask). IsTrue x.store.told → (log : ℕ) → x.within x.rooms log (x.store.logs log).state → LeavesAll (GivesRooms x.exact log) (IsOneOf x.rooms (x.manner.next x.rooms a Given)) (x.store.logs log) (y.store.logs log))
    c.in-Ok.ensures c.answer.ensures.in_hand in
    one_serves x y c.args.line.now c.answer.result c.requires.short c.answer.ensures.manner c.requires.capacity c.answer.ensures.capacity answered c.answer.ensures.told c.answer.ensures.names c.answer.ensures.exact_stays c.answer.ensures.within_stays
    c.answer.ensures.passed c.answer.ensures.within c.answer.ensures.exact c.answer.ensures.others hand (λ e. ap g.S.Store.state (c.answer.ensures.memory e)) c.answer.ensures.calls

pub returns-in-Err-clause-serves : goal.returns-in-Err-clause-serves
returns-in-Err-clause-serves g c =
    let store = g.S.Store.state c.args.store.now in
    let x = moment g.D.Desk.manner g.D.Desk.rooms g.D.Desk.outcomes g.D.Desk.capacity g.D.Desk.exact g.D.Desk.within c.args.desk.now store in
    let y = moment g.D.Desk.manner g.D.Desk.rooms g.D.Desk.outcomes g.D.Desk.capacity g.D.Desk.exact g.D.Desk.within c.miss.new.self store in
    missed_serves x y c.args.line.now c.miss.result refl c.requires.short c.miss.ensures.manner c.requires.capacity c.miss.ensures.capacity (g.met.D.Desk.failures c.args.desk.now) c.miss.ensures.reply c.miss.ensures.outcomes c.miss.ensures.rooms
    c.miss.ensures.exact_stays c.miss.ensures.within_stays
