use Rattle.std.proofs.Common.{subst}
use Rattle.cube_model.specs.Cores.{Core}
use Rattle.cube_model.specs.Dims.{IsDims}
use Rattle.cube_engine.proofs.Alone.{unwaited}
use Rattle.cube_engine.proofs.Logs.{kept_within}
use Rattle.cube_engine.proofs.Worlds.{cells_hidden}
use Rattle.cube_engine.proofs.book.Book.answer_counted.Goals as goal

pub returns-clause-answers : goal.returns-clause-answers
returns-clause-answers g c =
    let s = c.conclude_question-told in
    let x = s.ensures in
    let b = c.prepare-prepared.new.self in
    let logs = (g.S.Store.state s.new.store).logs in
    let dims = subst (λ (k : Core). IsDims k.dims) x.core c.core-rules.ensures.rules.core.dims in
    unwaited b.waiting c.args.self.now b s.new.book c.args.question.now s.result.0 s.result.1 (g.S.Store.state c.args.store.now) (g.S.Store.state s.new.store) c.prepare-prepared.ensures.same (record {
      replied = x.reply;
      history = x.history;
      core = x.core;
      policy = x.policy;
      log = x.log;
      none = x.none;
      cause = x.cause;
      works = x.works;
      quiet = x.quiet;
      others = x.others;
      kept = x.kept;
      exact = x.exact;
      within = λ told. kept_within b.core b.policy s.new.book.history s.new.book.journal (logs b.journal.log).state dims (x.kept told);
      crash = x.crash;
      in_hand = x.in_hand;
      renewed = x.renewed;
    })

pub returns-clause-two_worlds : goal.returns-clause-two_worlds
returns-clause-two_worlds g c =
    let s = c.conclude_question-told in
    cells_hidden c.args.self.now s.new.book c.args.question.now s.result.0 s.result.1 (g.S.Store.state c.args.store.now) (g.S.Store.state s.new.store) (returns-clause-answers g c) c.core-rules.ensures.rules
