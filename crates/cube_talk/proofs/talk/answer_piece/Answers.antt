use Rattle.std.proofs.Common.{◌∙◌, ap, refl}
use Rattle.cube_talk.proofs.Pieces.{progress_start, one_more, go_on, line_some, progress_all}
use Rattle.cube_talk.proofs.Puttings.{behind_start, behind_answer, behind_may, behind_heard, sight_none, sight_then}
use Rattle.cube_talk.proofs.Speech.{Speech}
use Rattle.cube_talk.specs.declared.talk.Heard.TheVariants as heard
use Rattle.cube_talk.proofs.talk.answer_piece.Given.{Over}
use Rattle.cube_talk.proofs.talk.answer_piece.Goals as goal

-- how the responder answers lines
abbrev speech : (g : Over) → Speech g.row.R.Denot g.row.S.Denot
speech g = record { says = g.R.Responder.says; silent = g.met.R.Responder.silent; onward = g.met.R.Responder.onward; alike = g.met.R.Responder.alike }

pub lines-init : goal.lines-init
lines-init g c =
    record {
      stands = c.requires.stands;
      going = c.requires.going;
      steady = refl;
      progress = λ o k. progress_start (speech g) c.args.responder.now c.args.store.now o c.args.piece.now c.args.carry.now c.args.replies.now (g.O.Sink.state c.args.out.now).written k;
      behind = behind_start (speech g) g.R.Responder.kept c.args.responder.now c.args.store.now (g.O.Sink.state c.args.out.now).written c.args.replies.now c.requires.empty;
      sight = sight_none (g.S.Store.state c.args.store.now) (g.O.Sink.state c.args.out.now).loose;
    }

pub returns-in_default-clause-all : goal.returns-in_default-clause-all
returns-in_default-clause-all g c = λ _ o k.
    progress_all (speech g) c.args.responder.now c.lines.responder c.args.store.now c.lines.store o c.args.piece.now c.lines.rest.now c.lines.carry c.extend.new.self c.args.replies.now c.lines.replies
    (g.O.Sink.state c.args.out.now).written (g.O.Sink.state c.lines.out).written (c.lines.invariant.progress o k) c.in_default.ensures.none c.extend.ensures

pub returns-in_default-clause-may : goal.returns-in_default-clause-may
returns-in_default-clause-may g c = λ whole.
    behind_may (speech g) g.R.Responder.kept g.S.Store.state g.O.Sink.allows c.args.responder.now c.lines.responder c.args.store.now c.lines.store (g.O.Sink.state c.args.out.now).written (g.O.Sink.state c.lines.out).written c.lines.replies
    c.requires.permits c.lines.invariant.behind

pub answer_line-requires-clause-permits : goal.answer_line-requires-clause-permits
answer_line-requires-clause-permits g c =
    behind_answer (speech g) g.R.Responder.kept g.S.Store.state g.O.Sink.allows c.args.responder.now c.lines.responder c.args.store.now c.lines.store (g.O.Sink.state c.args.out.now).written (g.O.Sink.state c.lines.out).written c.lines.replies
    c.without_return-line.result.now c.requires.permits c.lines.invariant.behind

pub returns-in_default-answer_line : goal.returns-in_default-answer_line
returns-in_default-answer_line g c =
    let (is, fed) = c.in-Some.ensures.some in
    let kept = c.as_slice.ensures ∙ c.extend-in-lines.ensures in
    record {
      all = λ e. absurd (c.in_default-answer_line.not-All e);
      some = λ n o k. line_some (speech g) c.answer_line.result c.args.responder.now c.lines.responder c.answer_line.new.responder c.args.store.now c.lines.store c.answer_line.new.store o c.args.piece.now c.lines.rest.now c.in-Some.line.now
          c.in-Some.behind.now c.lines.carry c.as_slice.result.now c.args.replies.now c.lines.replies c.answer_line.new.replies (g.O.Sink.state c.args.out.now).written (g.O.Sink.state c.lines.out).written (g.O.Sink.state c.answer_line.new.out).written
          (c.lines.invariant.progress o k) is fed kept (λ m. rw c.without_return-line.ensures at c.answer_line.ensures.said m)
          (λ m. ((c.answer_line.ensures.memory m).0, (c.answer_line.ensures.memory m).1, (c.answer_line.ensures.memory m).2, ap (λ o. (g.O.Sink.state o).written) (c.answer_line.ensures.memory m).3));
      may = λ whole. behind_may (speech g) g.R.Responder.kept g.S.Store.state g.O.Sink.allows c.args.responder.now c.answer_line.new.responder c.args.store.now c.answer_line.new.store (g.O.Sink.state c.args.out.now).written
          (g.O.Sink.state c.answer_line.new.out).written c.answer_line.new.replies c.requires.permits
          (behind_heard (speech g) g.R.Responder.kept c.answer_line.result c.args.responder.now c.lines.responder c.answer_line.new.responder c.args.store.now c.lines.store c.answer_line.new.store (g.O.Sink.state c.args.out.now).written
          (g.O.Sink.state c.lines.out).written (g.O.Sink.state c.answer_line.new.out).written c.lines.replies c.answer_line.new.replies c.without_return-line.result.now whole c.lines.invariant.behind c.answer_line.ensures.said
          (λ m. ((c.answer_line.ensures.memory m).0, (c.answer_line.ensures.memory m).1, (c.answer_line.ensures.memory m).2, ap (λ o. (g.O.Sink.state o).written) (c.answer_line.ensures.memory m).3)) (c.answer_line.ensures.settled whole));
      going = λ e. absurd (c.in_default-answer_line.not-All e);
      spent = c.answer_line.ensures.spent;
      memory = λ e. (c.answer_line.ensures.memory e).4;
      faults = record {
        rose = λ e. rw c.lines.invariant.steady at c.answer_line.ensures.faults.rose e;
        steady = λ n. c.answer_line.ensures.faults.steady n ∙ c.lines.invariant.steady;
      };
      sight = sight_then (g.S.Store.state c.args.store.now) (g.S.Store.state c.lines.store) (g.S.Store.state c.answer_line.new.store) (g.O.Sink.state c.args.out.now).loose (g.O.Sink.state c.lines.out).loose (g.O.Sink.state c.answer_line.new.out).loose
          c.lines.invariant.sight c.answer_line.ensures.sight;
      stands = c.answer_line.ensures.stands;
    }

pub lines-preserved : goal.lines-preserved
lines-preserved g c =
    let (is, fed) = c.in-Some.ensures.some in
    let kept = c.as_slice.ensures ∙ c.extend-in-lines.ensures in
    record {
      stands = c.in-All.ensures.stands;
      going = c.in-All.ensures.going refl;
      steady = c.in-All.ensures.faults.steady (λ e. cc) ∙ c.lines.invariant.steady;
      progress = λ o k.
          let line = rw c.without_return-line.ensures at c.in-All.ensures.said (λ e. cc) in
          go_on (speech g) c.args.responder.now c.answer_line.new.responder c.args.store.now c.answer_line.new.store o c.args.piece.now c.in-Some.behind.now c.clear.new.self c.args.replies.now c.answer_line.new.replies (g.O.Sink.state c.args.out.now).written
          (g.O.Sink.state c.answer_line.new.out).written
          (one_more (speech g) heard.All c.args.responder.now c.lines.responder c.answer_line.new.responder c.args.store.now c.lines.store c.answer_line.new.store o c.args.piece.now c.lines.rest.now c.in-Some.line.now c.in-Some.behind.now
          c.lines.carry c.as_slice.result.now c.args.replies.now c.lines.replies c.answer_line.new.replies (g.O.Sink.state c.args.out.now).written (g.O.Sink.state c.lines.out).written (g.O.Sink.state c.answer_line.new.out).written
          (c.lines.invariant.progress o k) is fed kept line)
          c.clear.ensures;
      behind = behind_heard (speech g) g.R.Responder.kept heard.All c.args.responder.now c.lines.responder c.answer_line.new.responder c.args.store.now c.lines.store c.answer_line.new.store (g.O.Sink.state c.args.out.now).written
          (g.O.Sink.state c.lines.out).written (g.O.Sink.state c.answer_line.new.out).written c.lines.replies c.answer_line.new.replies c.without_return-line.result.now (λ e. cc) c.lines.invariant.behind c.in-All.ensures.said
          (λ e. cc) (c.in-All.ensures.settled (λ e. cc));
      sight = sight_then (g.S.Store.state c.args.store.now) (g.S.Store.state c.lines.store) (g.S.Store.state c.answer_line.new.store) (g.O.Sink.state c.args.out.now).loose (g.O.Sink.state c.lines.out).loose (g.O.Sink.state c.answer_line.new.out).loose
          c.lines.invariant.sight c.in-All.ensures.sight;
    }
