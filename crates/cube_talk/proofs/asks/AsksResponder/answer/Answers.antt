use Rattle.cube_talk.specs.Moments.{moment}
use Rattle.cube_talk.proofs.AskCrash.{too_long_serves}
use Rattle.cube_talk.proofs.AskTalk.{some_capacity}
use Rattle.cube_talk.proofs.asks.AsksResponder.answer.Goals as goal

pub returns-then-line-gt-MAX_LINE-clause-ok : goal.returns-then-line-gt-MAX_LINE-clause-ok
returns-then-line-gt-MAX_LINE-clause-ok g c =
    let x = moment g.D.Desk.manner g.D.Desk.rooms g.D.Desk.outcomes g.D.Desk.capacity g.D.Desk.exact g.D.Desk.within c.args.self.now.desk (g.S.Store.state c.args.store.now) in
    too_long_serves x c.args.line.now c.if-line-gt-MAX_LINE.true (some_capacity x.capacity c.requires.going)
