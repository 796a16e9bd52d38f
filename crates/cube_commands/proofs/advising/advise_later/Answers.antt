use Rattle.std.proofs.Common.{inl, inr, refl}
use Rattle.cube_io.specs.Seen.{seen}
use Rattle.cube_advise.specs.Telling.{later_text}
use Rattle.cube_commands.specs.Advising.{AdvisesBehind}
use Rattle.cube_commands.proofs.Advised.{is_advice}
use Rattle.cube_commands.proofs.Behind.{said_by}
use Rattle.cube_commands.proofs.Unread.{all_read, at_advised, unread_first}
use Rattle.cube_opening.proofs.Causes.{same, alone, never, wider, at_file}
use Rattle.cube_starting.proofs.Causes.{at_journals}
use Rattle.cube_starting.specs.OneCube.{under}
use Rattle.cube_starting.proofs.Unstarted as unstarted
use Rattle.cube_commands.proofs.advising.advise_later.Goals as goal

pub returns-in-Err-clause-answers : goal.returns-in-Err-clause-answers
returns-in-Err-clause-answers g c = unread_first c.args.cube.now c.args.workload.now (seen g.F.Folder.state c.args.world.now.files c.open_advisable.new.files) c.in-Err.report c.in-Err.ensures.err refl refl

pub returns-in-Err-clause-complete : goal.returns-in-Err-clause-complete
returns-in-Err-clause-complete g c = λ all has kept files store out. inr (all_read c.args.cube.now c.args.workload.now (seen g.F.Folder.state c.args.world.now.files c.open_advisable.new.files) c.in-Err.report c.in-Err.ensures.err all has files)

pub returns-in-Err-clause-outcomes : goal.returns-in-Err-clause-outcomes
returns-in-Err-clause-outcomes g c = (at_advised c.args.cube.now c.args.workload.now (seen g.F.Folder.state c.args.world.now.files c.open_advisable.new.files) c.in-Err.report c.in-Err.ensures.err).outcomes

pub returns-in-Err-open_book-clause-answers : goal.returns-in-Err-open_book-clause-answers
returns-in-Err-open_book-clause-answers g c =
    let guarded = c.in-Ok.opened.value.guarded in
    inr (inl (inr (record { core = guarded.core; policy = guarded.policy; files_make = c.in-Ok.ensures.ok.1; ended = c.in-Err-open_book.ensures.err }, c.in-Ok.ensures.behind), refl))

pub returns-clause-answers : goal.returns-clause-answers
returns-clause-answers g c =
    let read = c.in-Ok.opened.value in
    let guarded = read.guarded in
    let y = c.in-Ok-open_book.ensures in
    let book = c.in-Ok-open_book.started.value in
    let files = g.F.Folder.state c.args.world.now.files in
    let out = seen g.O.Sink.state c.args.world.now.out c.put_text.new.out in
    let rules = y.begun.started.rules in
    inr (inr (
      said_by c.args.cube.now files guarded.core guarded.policy (seen g.S.Store.state c.args.world.now.store c.open_book.new.store) book
          (AdvisesBehind c.args.workload.now files out c.put_text.result) c.in-Ok.ensures.ok.1 y.begun y.held y.passed (record {
            bytes = read.workload;
            said = c.in-Ok.ensures.said;
            is = is_advice book.core book.policy book.history rules.core rules.policy rules.admissible;
            puts = c.put_text.ensures.puts (later_text book.core book.policy book.history read.workload) c.told_behind-text.ensures;
          }),
      c.in-Ok.ensures.behind,
    ))

pub returns-in-Err-clause-causes : goal.returns-in-Err-clause-causes
returns-in-Err-clause-causes g c = wider same (never _) (alone refl) (alone refl) (alone refl) (at_file (at_advised c.args.cube.now c.args.workload.now (seen g.F.Folder.state c.args.world.now.files c.open_advisable.new.files) c.in-Err.report c.in-Err.ensures.err) c.in-Err.ensures.steady_err)

pub returns-in-Err-open_book-clause-causes : goal.returns-in-Err-open_book-clause-causes
returns-in-Err-open_book-clause-causes g c = wider (alone c.in-Ok.ensures.steady) (λ e. e) (alone refl) (alone refl) (alone refl) (at_journals c.in-Ok.opened.value.guarded.core (under c.in-Ok.opened.value.guarded.policy) (seen g.S.Store.state c.args.world.now.store c.open_book.new.store) c.in-Err-open_book.report c.in-Err-open_book.ensures.err.unstarted)

pub returns-clause-causes : goal.returns-clause-causes
returns-clause-causes g c = wider (alone c.in-Ok.ensures.steady) (never _) (alone refl) same (alone refl) c.put_text.ensures.causes

pub returns-in-Err-open_book-clause-complete : goal.returns-in-Err-open_book-clause-complete
returns-in-Err-open_book-clause-complete g c = λ all has kept files store out.
    inr (unstarted.accepted c.in-Ok.opened.value.guarded.core (under c.in-Ok.opened.value.guarded.policy) (seen g.S.Store.state c.args.world.now.store c.open_book.new.store) c.in-Err-open_book.report kept.told (kept.accepted c.in-Ok.opened.value.guarded.core c.in-Ok.opened.value.guarded.policy c.in-Ok.ensures.ok.1) store c.in-Err-open_book.ensures.err.unstarted)

pub returns-in-Err-open_book-clause-outcomes : goal.returns-in-Err-open_book-clause-outcomes
returns-in-Err-open_book-clause-outcomes g c = unstarted.unasked c.in-Ok.opened.value.guarded.core (under c.in-Ok.opened.value.guarded.policy) (seen g.S.Store.state c.args.world.now.store c.open_book.new.store) c.in-Err-open_book.report c.in-Err-open_book.ensures.err.unstarted
