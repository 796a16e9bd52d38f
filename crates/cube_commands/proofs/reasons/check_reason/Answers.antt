use Rattle.std.proofs.Common.{◌∷◌, ◌∙◌, ℕ, List, [], Option, Ok, inl, inr, refl, subst, sym}
use Rattle.std.specs.Prelude.{IfSome}
use Rattle.cube_io.specs.Seen.{seen}
use Rattle.cube_opening.specs.Opening.{FileSays, names_of}
use Rattle.cube_opening.proofs.Accepted.{all_accepted}
use Rattle.cube_opening.proofs.Behind.{asked_then, ends_behind}
use Rattle.cube_opening.proofs.Ended.{unasked}
use Rattle.cube_commands.specs.Reasons.{IsWhetherOf, SaysOfFile, of_query, reason_said}
use Rattle.cube_commands.proofs.Behind.{said_by}
use Rattle.cube_commands.proofs.Said.{done_by, not_refused, not_unasked, says_by}
use Rattle.cube_opening.proofs.Causes.{same, alone, later, never, wider, at_file, at_files, at_one}
use Rattle.cube_starting.proofs.Causes.{at_journals}
use Rattle.cube_starting.specs.OneCube.{under}
use Rattle.cube_starting.proofs.Unstarted as unstarted
use Rattle.cube_model.specs.Cores.{Core}
use Rattle.cube_query.specs.Faults.{request_of}
use Rattle.std.specs.Prelude.{IsOk}
use Rattle.cube_commands.proofs.reasons.check_reason.Goals as goal

pub returns-in-Err-clause-answers : goal.returns-in-Err-clause-answers
returns-in-Err-clause-answers g c = inr (inl (inl (c.in-Err.ensures.err, refl), refl))

pub returns-in-Err-clause-complete : goal.returns-in-Err-clause-complete
returns-in-Err-clause-complete g c = λ all has kept asked files store out. inr (all_accepted c.args.cube.now (seen g.F.Folder.state c.args.world.now.files c.open_guarded.new.files) c.in-Err.report c.in-Err.ensures.err all files)

pub returns-in-Err-clause-outcomes : goal.returns-in-Err-clause-outcomes
returns-in-Err-clause-outcomes g c = unasked c.args.cube.now (seen g.F.Folder.state c.args.world.now.files c.open_guarded.new.files) c.in-Err.report c.in-Err.ensures.err

pub returns-in-Err-open_reason-clause-answers : goal.returns-in-Err-open_reason-clause-answers
returns-in-Err-open_reason-clause-answers g c =
    let x = c.in-Ok.ensures in
    inl (
      record {
        core = c.in-Ok.opened.value.core;
        policy = c.in-Ok.opened.value.policy;
        files_make = x.ok.1;
        ends = ends_behind (names_of c.args.cube.now) reason_said c.args.reason.now g.F.Folder.state c.args.world.now.files c.open_guarded.new.files c.open_reason.new.files c.in-Err-open_reason.report x.behind.asked x.reads.files x.behind.steady c.in-Err-open_reason.ensures.err;
      },
      refl,
      refl,
    )

pub returns-in-Err-open_book-clause-answers : goal.returns-in-Err-open_book-clause-answers
returns-in-Err-open_book-clause-answers g c =
    let guarded = c.in-Ok.opened.value in
    let x = c.in-Ok.ensures in
    let z = c.in-Ok-open_reason.ensures in
    inr (inl (
      inr (
        record { core = guarded.core; policy = guarded.policy; files_make = x.ok.1; ended = c.in-Err-open_book.ensures.err },
        record { asked = asked_then (names_of c.args.cube.now) (c.args.reason.now ∷ []) g.F.Folder.state c.args.world.now.files c.open_guarded.new.files c.open_reason.new.files x.behind.asked z.asks; steady = z.reads.steady ∙ x.behind.steady },
      ),
      refl,
    ))

pub returns-clause-answers : goal.returns-clause-answers
returns-clause-answers g c =
    let guarded = c.in-Ok.opened.value in
    let x = c.in-Ok.ensures in
    let z = c.in-Ok-open_reason.ensures in
    let y = c.in-Ok-open_book.ensures in
    let book = c.in-Ok-open_book.started.value in
    let reason = c.in-Ok-open_reason.read.value in
    let query = c.args.query.now in
    let files = g.F.Folder.state c.args.world.now.files in
    let out = seen g.O.Sink.state c.args.world.now.out c.put_said.new.out in
    inr (inr (
      said_by c.args.cube.now files guarded.core guarded.policy (seen g.S.Store.state c.args.world.now.store c.open_book.new.store) book
          (SaysOfFile query c.args.reason.now files out c.put_said.result) x.ok.1 y.begun y.held y.passed (record {
            reason = reason;
            read = subst (λ (fs : Option (List (List ℕ × List ℕ))). IfSome fs (λ known. FileSays reason_said c.args.reason.now known (Ok reason))) x.reads.files z.ok.1;
            says = says_by of_query (IsWhetherOf book.core book.policy book.history query reason) c.whether_of-said.result out c.put_said.result c.whether_of-said.ensures.ok c.whether_of-said.ensures.err c.put_said.ensures.says;
          }),
      record { asked = asked_then (names_of c.args.cube.now) (c.args.reason.now ∷ []) g.F.Folder.state c.args.world.now.files c.open_guarded.new.files c.open_reason.new.files x.behind.asked z.asks; steady = z.reads.steady ∙ x.behind.steady },
    ))

pub returns-in-Err-clause-causes : goal.returns-in-Err-clause-causes
returns-in-Err-clause-causes g c = wider same (never _) (alone refl) (alone refl) (alone refl) (at_file (at_files c.args.cube.now (seen g.F.Folder.state c.args.world.now.files c.open_guarded.new.files) c.in-Err.report c.in-Err.ensures.err) c.in-Err.ensures.reads.steady_err)

pub returns-in-Err-open_reason-clause-causes : goal.returns-in-Err-open_reason-clause-causes
returns-in-Err-open_reason-clause-causes g c = wider (later c.in-Ok.ensures.reads.steady refl) (never _) (alone refl) (alone refl) (alone refl) (at_file (at_one reason_said c.args.reason.now (seen g.F.Folder.state c.open_guarded.new.files c.open_reason.new.files) _ c.in-Err-open_reason.ensures.err.unopened) c.in-Err-open_reason.ensures.reads.steady_err)

pub returns-in-Err-open_book-clause-causes : goal.returns-in-Err-open_book-clause-causes
returns-in-Err-open_book-clause-causes g c = wider (alone (c.in-Ok-open_reason.ensures.reads.steady ∙ c.in-Ok.ensures.reads.steady)) (λ e. e) (alone refl) (alone refl) (alone refl) (at_journals c.in-Ok.opened.value.core (under c.in-Ok.opened.value.policy) (seen g.S.Store.state c.args.world.now.store c.open_book.new.store) c.in-Err-open_book.report c.in-Err-open_book.ensures.err.unstarted)

pub returns-clause-causes : goal.returns-clause-causes
returns-clause-causes g c = wider (alone (c.in-Ok-open_reason.ensures.reads.steady ∙ c.in-Ok.ensures.reads.steady)) (never _) (alone refl) same (alone refl) c.put_said.ensures.causes

pub returns-in-Err-open_book-clause-complete : goal.returns-in-Err-open_book-clause-complete
returns-in-Err-open_book-clause-complete g c = λ all has kept asked files store out.
    inr (unstarted.accepted c.in-Ok.opened.value.core (under c.in-Ok.opened.value.policy) (seen g.S.Store.state c.args.world.now.store c.open_book.new.store) c.in-Err-open_book.report kept.told (kept.accepted c.in-Ok.opened.value.core c.in-Ok.opened.value.policy c.in-Ok.ensures.ok.1) store c.in-Err-open_book.ensures.err.unstarted)

pub returns-in-Err-open_book-clause-outcomes : goal.returns-in-Err-open_book-clause-outcomes
returns-in-Err-open_book-clause-outcomes g c = unstarted.unasked c.in-Ok.opened.value.core (under c.in-Ok.opened.value.policy) (seen g.S.Store.state c.args.world.now.store c.open_book.new.store) c.in-Err-open_book.report c.in-Err-open_book.ensures.err.unstarted

pub returns-clause-complete : goal.returns-clause-complete
returns-clause-complete g c = λ all has kept asked files store out.
    let guarded = c.in-Ok.opened.value in
    let begun = c.in-Ok-open_book.ensures.begun.started in
    let query = c.args.query.now in
    let is_there = subst (λ (core : Core). IsOk (request_of core.dims query)) (sym begun.core_is) (asked guarded.core guarded.policy c.in-Ok.ensures.ok.1) in
    let w = c.put_said.ensures in
    let book = c.in-Ok-open_book.started.value in
    done_by c.put_said.result.status w.status (λ three. not_refused (IsWhetherOf book.core book.policy book.history query c.in-Ok-open_reason.read.value) c.whether_of-said.result c.whether_of-said.ensures.err (not_unasked book.core query is_there) (w.refused three)) (λ six. out (w.causes.output six))
