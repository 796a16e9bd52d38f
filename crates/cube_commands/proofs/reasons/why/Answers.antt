use Rattle.std.proofs.Common.{inl, inr, refl, subst, sym}
use Rattle.cube_io.specs.Seen.{seen}
use Rattle.cube_opening.proofs.Accepted.{all_accepted}
use Rattle.cube_opening.proofs.Ended.{unasked}
use Rattle.cube_commands.specs.Reasons.{IsWhyOf, of_query}
use Rattle.cube_commands.specs.Saying.{SaysOne}
use Rattle.cube_commands.proofs.Behind.{said_by}
use Rattle.cube_commands.proofs.Said.{done_by, not_refused, not_unasked, says_by}
use Rattle.cube_opening.proofs.Causes.{same, alone, never, wider, at_file, at_files}
use Rattle.cube_starting.proofs.Causes.{at_journals}
use Rattle.cube_starting.specs.OneCube.{under}
use Rattle.cube_starting.proofs.Unstarted as unstarted
use Rattle.cube_model.specs.Cores.{Core}
use Rattle.cube_query.specs.Faults.{request_of}
use Rattle.std.specs.Prelude.{IsOk}
use Rattle.cube_commands.proofs.reasons.why.Goals as goal

pub returns-clause-answers : goal.returns-clause-answers
returns-clause-answers g c =
    let guarded = c.in-Ok.opened.value in
    let y = c.in-Ok-open_book.ensures in
    let book = c.in-Ok-open_book.started.value in
    let query = c.args.query.now in
    let out = seen g.O.Sink.state c.args.world.now.out c.put_said.new.out in
    inr (
      said_by c.args.cube.now (g.F.Folder.state c.args.world.now.files) guarded.core guarded.policy (seen g.S.Store.state c.args.world.now.store c.open_book.new.store) book
          (λ core policy h. SaysOne of_query (IsWhyOf core policy h query) out c.put_said.result) c.in-Ok.ensures.ok.1 y.begun y.held y.passed
          (says_by of_query (IsWhyOf book.core book.policy book.history query) c.why_of-said.result out c.put_said.result c.why_of-said.ensures.ok c.why_of-said.ensures.err c.put_said.ensures.says),
      c.in-Ok.ensures.behind,
    )

pub returns-in-Err-clause-complete : goal.returns-in-Err-clause-complete
returns-in-Err-clause-complete g c = λ all kept asked files store out. inr (all_accepted c.args.cube.now (seen g.F.Folder.state c.args.world.now.files c.open_guarded.new.files) c.in-Err.report c.in-Err.ensures.err all files)

pub returns-in-Err-clause-answers : goal.returns-in-Err-clause-answers
returns-in-Err-clause-answers g c = inl (inl (c.in-Err.ensures.err, refl), refl)

pub returns-in-Err-open_book-clause-answers : goal.returns-in-Err-open_book-clause-answers
returns-in-Err-open_book-clause-answers g c =
    let guarded = c.in-Ok.opened.value in
    inl (inr (record { core = guarded.core; policy = guarded.policy; files_make = c.in-Ok.ensures.ok.1; ended = c.in-Err-open_book.ensures.err }, c.in-Ok.ensures.behind), refl)

pub returns-in-Err-clause-outcomes : goal.returns-in-Err-clause-outcomes
returns-in-Err-clause-outcomes g c = unasked c.args.cube.now (seen g.F.Folder.state c.args.world.now.files c.open_guarded.new.files) c.in-Err.report c.in-Err.ensures.err

pub returns-in-Err-clause-causes : goal.returns-in-Err-clause-causes
returns-in-Err-clause-causes g c = wider same (never _) (alone refl) (alone refl) (alone refl) (at_file (at_files c.args.cube.now (seen g.F.Folder.state c.args.world.now.files c.open_guarded.new.files) c.in-Err.report c.in-Err.ensures.err) c.in-Err.ensures.reads.steady_err)

pub returns-in-Err-open_book-clause-causes : goal.returns-in-Err-open_book-clause-causes
returns-in-Err-open_book-clause-causes g c = wider (alone c.in-Ok.ensures.reads.steady) (λ e. e) (alone refl) (alone refl) (alone refl) (at_journals c.in-Ok.opened.value.core (under c.in-Ok.opened.value.policy) (seen g.S.Store.state c.args.world.now.store c.open_book.new.store) c.in-Err-open_book.report c.in-Err-open_book.ensures.err.unstarted)

pub returns-clause-causes : goal.returns-clause-causes
returns-clause-causes g c = wider (alone c.in-Ok.ensures.reads.steady) (never _) (alone refl) same (alone refl) c.put_said.ensures.causes

pub returns-in-Err-open_book-clause-complete : goal.returns-in-Err-open_book-clause-complete
returns-in-Err-open_book-clause-complete g c = λ all kept asked files store out.
    inr (unstarted.accepted c.in-Ok.opened.value.core (under c.in-Ok.opened.value.policy) (seen g.S.Store.state c.args.world.now.store c.open_book.new.store) c.in-Err-open_book.report kept.told (kept.accepted c.in-Ok.opened.value.core c.in-Ok.opened.value.policy c.in-Ok.ensures.ok.1) store c.in-Err-open_book.ensures.err.unstarted)

pub returns-in-Err-open_book-clause-outcomes : goal.returns-in-Err-open_book-clause-outcomes
returns-in-Err-open_book-clause-outcomes g c = unstarted.unasked c.in-Ok.opened.value.core (under c.in-Ok.opened.value.policy) (seen g.S.Store.state c.args.world.now.store c.open_book.new.store) c.in-Err-open_book.report c.in-Err-open_book.ensures.err.unstarted

pub returns-clause-complete : goal.returns-clause-complete
returns-clause-complete g c = λ all kept asked files store out.
    let guarded = c.in-Ok.opened.value in
    let begun = c.in-Ok-open_book.ensures.begun.started in
    let query = c.args.query.now in
    let is_there = subst (λ (core : Core). IsOk (request_of core.dims query)) (sym begun.core_is) (asked guarded.core guarded.policy c.in-Ok.ensures.ok.1) in
    let w = c.put_said.ensures in
    let book = c.in-Ok-open_book.started.value in
    done_by c.put_said.result.status w.status (λ three. not_refused (IsWhyOf book.core book.policy book.history query) c.why_of-said.result c.why_of-said.ensures.err (not_unasked book.core query is_there) (w.refused three)) (λ six. out (w.causes.output six))
