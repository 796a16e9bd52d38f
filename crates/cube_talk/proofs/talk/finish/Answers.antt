use Rattle.std.proofs.Common.{◌∙◌, [], Some, ap}
use Rattle.cube_talk.proofs.Puttings.{behind_start, behind_answer, behind_heard, behind_may, sight_over}
use Rattle.cube_talk.proofs.Speech.{Speech}
use Rattle.cube_talk.specs.Talk.{Spoke}
use Rattle.cube_talk.proofs.Settled.{line_settled}
use Rattle.cube_talk.proofs.Spoken.{spoke_kept}
use Rattle.cube_talk.proofs.talk.finish.Given.{Over}
use Rattle.cube_talk.proofs.talk.finish.Goals as goal

-- how the responder answers lines
abbrev speech : (g : Over) → Speech g.row.R.Denot g.row.S.Denot
speech g = record { says = g.R.Responder.says; silent = g.met.R.Responder.silent; onward = g.met.R.Responder.onward; alike = g.met.R.Responder.alike }

pub returns-in-Some-clause-said : goal.returns-in-Some-clause-said
returns-in-Some-clause-said g c = λ some n.
    let said = rw (c.requires.empty, c.as_slice-2.ensures) at c.answer_line-heard.ensures.said in
    line_settled g.R.Responder.says c.answer_line-heard.result c.in-Some.ending c.args.responder.now c.answer_line-heard.new.responder c.args.store.now c.answer_line-heard.new.store c.args.carry.now
    c.answer_line-heard.new.replies (g.O.Sink.state c.args.out.now).written (g.O.Sink.state c.answer_line-heard.new.out).written (g.O.Sink.state c.flush_heard.new.out).written c.in-Some.ensures.follows n
    (λ m e. c.in-Some.ensures.quiet ((c.answer_line-heard.ensures.memory m).2 ∙ c.requires.empty) (λ o. cc) (ap Some e)) said c.in-Some.ensures.puts

pub returns-in-Some-clause-memory : goal.returns-in-Some-clause-memory
returns-in-Some-clause-memory g c = λ e.
    let none = rw e at c.in-Some.ensures.follows in
    let (ea, eb, ew, eo, lacks) = c.answer_line-heard.ensures.memory none in
    let put = rw e at c.in-Some.ensures.puts (g.O.Sink.state c.args.out.now).written [] in
    let spoke : Spoke [] [] c.answer_line-heard.new.replies (g.O.Sink.state c.args.out.now).written (g.O.Sink.state c.answer_line-heard.new.out).written = rw eo (spoke_kept [] [] c.answer_line-heard.new.replies (g.O.Sink.state c.args.out.now).written (ew ∙ c.requires.empty)) in
    (ea, eb, put (rw none spoke), lacks)

pub answer_line-heard-requires-clause-permits : goal.answer_line-heard-requires-clause-permits
answer_line-heard-requires-clause-permits g c =
    let written = (g.O.Sink.state c.args.out.now).written in
    behind_answer (speech g) g.R.Responder.kept g.S.Store.state g.O.Sink.allows c.args.responder.now c.args.responder.now c.args.store.now c.args.store.now written written c.args.replies.now c.as_slice-2.result.now c.requires.permits
    (behind_start (speech g) g.R.Responder.kept c.args.responder.now c.args.store.now written c.args.replies.now c.requires.empty)

pub flush_heard-requires : goal.flush_heard-requires
flush_heard-requires g c = λ whole.
    let before = (g.O.Sink.state c.args.out.now).written in
    let now = (g.O.Sink.state c.answer_line-heard.new.out).written in
    let line = c.answer_line-heard.ensures in
    behind_may (speech g) g.R.Responder.kept g.S.Store.state g.O.Sink.allows c.args.responder.now c.answer_line-heard.new.responder c.args.store.now c.answer_line-heard.new.store before now c.answer_line-heard.new.replies c.requires.permits
    (behind_heard (speech g) g.R.Responder.kept c.answer_line-heard.result c.args.responder.now c.args.responder.now c.answer_line-heard.new.responder c.args.store.now c.args.store.now c.answer_line-heard.new.store
    before before now c.args.replies.now c.answer_line-heard.new.replies c.as_slice-2.result.now whole
    (behind_start (speech g) g.R.Responder.kept c.args.responder.now c.args.store.now before c.args.replies.now c.requires.empty)
    line.said (λ m. ((line.memory m).0, (line.memory m).1, (line.memory m).2, ap (λ o. (g.O.Sink.state o).written) (line.memory m).3)) (line.settled whole))

pub returns-in-Some-clause-sight : goal.returns-in-Some-clause-sight
returns-in-Some-clause-sight g c =
    sight_over (g.S.Store.state c.args.store.now) (g.S.Store.state c.answer_line-heard.new.store) (g.O.Sink.state c.args.out.now).loose (g.O.Sink.state c.answer_line-heard.new.out).loose (g.O.Sink.state c.flush_heard.new.out).loose
    c.answer_line-heard.ensures.sight c.flush_heard.ensures.sight

pub returns-in-None-clause-sight : goal.returns-in-None-clause-sight
returns-in-None-clause-sight g c =
    sight_over (g.S.Store.state c.args.store.now) (g.S.Store.state c.answer_line-heard.new.store) (g.O.Sink.state c.args.out.now).loose (g.O.Sink.state c.answer_line-heard.new.out).loose (g.O.Sink.state c.flush_heard.new.out).loose
    c.answer_line-heard.ensures.sight c.flush_heard.ensures.sight
