use Rattle.std.proofs.Common.{refl}
use Rattle.cube_io.specs.Seen.{seen}
use Rattle.cube_talk.specs.Sums.{AnswersSums}
use Rattle.cube_talk.proofs.Puttings.{permits_over}
use Rattle.cube_talk.proofs.SumTalk.{talked}
use Rattle.cube_talk.proofs.sums.converse_by_sums.Goals as goal

pub returns-clause-talked : goal.returns-clause-talked
returns-clause-talked g c =
    talked c.converse-end.result c.args.flat _ c.converse-end.new.responder c.args.store.now c.converse-end.new.store (seen g.I.Source.state c.args.input.now c.converse-end.new.input) (seen g.O.Sink.state c.args.out.now c.converse-end.new.out)
    refl refl c.converse-end.ensures.conversed

pub converse-end-requires-clause-permits : goal.converse-end-requires-clause-permits
converse-end-requires-clause-permits g c =
    permits_over (λ x s ls y t text. AnswersSums x y ls text) (λ x. 0) g.S.Store.state g.O.Sink.allows (record { flat = c.args.flat; lines = 0 }) c.args.store.now (g.O.Sink.state c.args.out.now).written c.requires.permits
