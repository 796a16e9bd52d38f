use Rattle.std.proofs.Common.{refl, sym}
use Rattle.cube_http.specs.Targets.{wanted}
use Rattle.cube_server.specs.Seen.{moment}
use Rattle.cube_server.proofs.Dealt.{missed_calls, missed_called, missed_deals}
use Rattle.cube_server.proofs.Enduring.{OneMiss, endures_miss}
use Rattle.cube_server.proofs.deal.make_reply.Goals as goal

pub returns-in-Ok-clause-does : goal.returns-in-Ok-clause-does
returns-in-Ok-clause-does g c = rw (sym c.in-Ok.ensures) c.reply_to.ensures.does

pub returns-in-Err-clause-does : goal.returns-in-Err-clause-does
returns-in-Err-clause-does g c =
    let m = c.miss.ensures in
    let at = moment g.D.Desk.manner g.D.Desk.rooms g.D.Desk.capacity g.D.Desk.outcomes g.D.Desk.exact g.D.Desk.within in
    let store = g.S.Store.state c.args.store.now in
    let old = (at c.args.desk.now store).desk in
    let new = (at c.miss.new.self store).desk in
    let one : OneMiss old new = record { manner = m.manner; rooms = m.rooms; capacity = m.capacity; added = m.outcomes } in
    let w = wanted c.args.done.now in
    let steady = g.met.D.Desk.failures c.args.desk.now in (
      missed_calls w,
      endures_miss _ _ _ one (missed_called w old new steady one) refl m.within_stays m.exact_stays,
      (λ q n log log' live s. missed_deals w n q _ _ log log' live steady one (rw m.reply at s)),
    )
