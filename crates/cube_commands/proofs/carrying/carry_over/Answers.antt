use Rattle.std.specs.Prelude.{codes}
use Rattle.std.proofs.Common.{◌∙◌, inl, inr, refl, sym, subst}
use Rattle.cube_model.specs.declared.policy.Policy.{Policy}
use Rattle.cube_model.specs.Cores.{Core}
use Rattle.cube_io.specs.Seen.{seen}
use Rattle.cube_opening.specs.Opening.{names_of}
use Rattle.cube_opening.proofs.Accepted.{all_accepted}
use Rattle.cube_opening.proofs.Behind.{asked_then}
use Rattle.cube_opening.proofs.Ended.{unasked}
use Rattle.cube_commands.specs.Carrying.{Handing, HandsOver, IsCarryOf, IsHanded, handing_of}
use Rattle.cube_commands.proofs.Behind.{said_by}
use Rattle.cube_commands.proofs.Handed.{not_uncarried}
use Rattle.cube_commands.proofs.Handing.{make_before, has_then, calm_then}
use Rattle.cube_commands.proofs.Said.{done_by, not_refused, says_by}
use Rattle.cube_opening.proofs.Causes.{same, alone, later, never, wider, at_file, at_files}
use Rattle.cube_starting.proofs.Causes.{at_journals}
use Rattle.cube_starting.specs.OneCube.{under}
use Rattle.cube_starting.proofs.Unstarted as unstarted
use Rattle.cube_commands.proofs.carrying.carry_over.Goals as goal

pub returns-clause-answers : goal.returns-clause-answers
returns-clause-answers g c =
    let x = c.in-Ok.ensures in
    let z = c.in-Ok-open_guarded.ensures in
    let guarded = c.in-Ok-open_guarded.guarded.value in
    let y = c.in-Ok-open_book.ensures in
    let book = c.in-Ok-open_book.started.value in
    let now = g.F.Folder.state c.args.world.now.files in
    let then = g.F.Folder.state c.open_guarded.new.files in
    let out = seen g.O.Sink.state c.args.world.now.out c.put_said.new.out in
    let new = c.in-Ok.opened.value in
    let make = make_before c.args.older.now now then guarded.core guarded.policy x.reads.files z.ok.1 in
    inr (inr (
      record {
        new_core = new.core;
        new_policy = new.policy;
        files_make = x.ok.1;
        hands = said_by c.args.older.now now guarded.core guarded.policy (seen g.S.Store.state c.args.world.now.store c.open_book.new.store) book
            (λ core policy h. HandsOver (record { older = core; older_policy = policy; history = h; core = new.core; policy = new.policy }) out c.put_said.result) make y.begun y.held y.passed
            (says_by (codes "carry: ") (IsCarryOf (handing_of book new.core new.policy)) c.carried_over-said.result out c.put_said.result c.carried_over-said.ensures.ok c.carried_over-said.ensures.err c.put_said.ensures.says);
      },
      record { asked = asked_then (names_of c.args.cube.now) (names_of c.args.older.now) g.F.Folder.state c.args.world.now.files c.open_guarded.new.files c.open_guarded-2.new.files x.behind.asked z.behind.asked; steady = z.reads.steady ∙ x.behind.steady },
    ))

pub returns-in-Err-clause-answers : goal.returns-in-Err-clause-answers
returns-in-Err-clause-answers g c = inl (c.in-Err.ensures.err, refl, refl)

pub returns-in-Err-clause-complete : goal.returns-in-Err-clause-complete
returns-in-Err-clause-complete g c = λ all has kept can files store out. inr (all_accepted c.args.cube.now (seen g.F.Folder.state c.args.world.now.files c.open_guarded.new.files) c.in-Err.report c.in-Err.ensures.err all files)

pub returns-in-Err-clause-outcomes : goal.returns-in-Err-clause-outcomes
returns-in-Err-clause-outcomes g c = unasked c.args.cube.now (seen g.F.Folder.state c.args.world.now.files c.open_guarded.new.files) c.in-Err.report c.in-Err.ensures.err

pub returns-in-Err-open_guarded-clause-answers : goal.returns-in-Err-open_guarded-clause-answers
returns-in-Err-open_guarded-clause-answers g c =
    let x = c.in-Ok.ensures in
    inr (inl (
      record {
        moment = c.open_guarded.new.files;
        between = g.F.Folder.state c.open_guarded.new.files;
        same_files = x.reads.files;
        behind = x.behind;
        ends = inl (c.in-Err-open_guarded.ensures.err, refl);
      },
      refl,
    ))

pub returns-in-Err-open_guarded-clause-complete : goal.returns-in-Err-open_guarded-clause-complete
returns-in-Err-open_guarded-clause-complete g c = λ all has kept can files store out.
    let x = c.in-Ok.ensures in
    let now = g.F.Folder.state c.args.world.now.files in
    let then = g.F.Folder.state c.open_guarded.new.files in
    inr (all_accepted c.args.older.now (seen g.F.Folder.state c.open_guarded.new.files c.open_guarded-2.new.files) c.in-Err-open_guarded.report c.in-Err-open_guarded.ensures.err (has_then c.args.older.now now then x.reads.files has) (calm_then now.faults then.faults (g.F.Folder.state c.open_guarded-2.new.files).faults x.behind.steady files))

pub returns-in-Err-open_guarded-clause-outcomes : goal.returns-in-Err-open_guarded-clause-outcomes
returns-in-Err-open_guarded-clause-outcomes g c = unasked c.args.older.now (seen g.F.Folder.state c.open_guarded.new.files c.open_guarded-2.new.files) c.in-Err-open_guarded.report c.in-Err-open_guarded.ensures.err

pub returns-in-Err-open_book-clause-answers : goal.returns-in-Err-open_book-clause-answers
returns-in-Err-open_book-clause-answers g c =
    let x = c.in-Ok.ensures in
    let z = c.in-Ok-open_guarded.ensures in
    let guarded = c.in-Ok-open_guarded.guarded.value in
    inr (inl (
      record {
        moment = c.open_guarded.new.files;
        between = g.F.Folder.state c.open_guarded.new.files;
        same_files = x.reads.files;
        behind = x.behind;
        ends = inr (
          record {
            core = guarded.core;
            policy = guarded.policy;
            files_make = z.ok.1;
            ended = c.in-Err-open_book.ensures.err;
          },
          z.behind,
        );
      },
      refl,
    ))

pub returns-clause-complete : goal.returns-clause-complete
returns-clause-complete g c = λ all has kept can files store out.
    let x = c.in-Ok.ensures in
    let z = c.in-Ok-open_guarded.ensures in
    let guarded = c.in-Ok-open_guarded.guarded.value in
    let y = c.in-Ok-open_book.ensures in
    let book = c.in-Ok-open_book.started.value in
    let new = c.in-Ok.opened.value in
    let make = make_before c.args.older.now (g.F.Folder.state c.args.world.now.files) (g.F.Folder.state c.open_guarded.new.files) guarded.core guarded.policy x.reads.files z.ok.1 in
    let handing : Core → Policy → Handing = λ core policy. record { older = core; older_policy = policy; history = book.history; core = new.core; policy = new.policy } in
    let handed = can (handing guarded.core guarded.policy) x.ok.1 make (y.begun.started.history kept.told) in
    let is_handed = subst (λ (core : Core). IsHanded (handing core book.policy)) (sym y.begun.started.core_is) (subst (λ (policy : Policy). IsHanded (handing guarded.core policy)) (sym y.begun.started.policy) handed) in
    let w = c.put_said.ensures in
    let x = handing_of book new.core new.policy in
    done_by c.put_said.result.status w.status (λ three. not_refused (IsCarryOf x) c.carried_over-said.result c.carried_over-said.ensures.err (not_uncarried x is_handed) (w.refused three)) (λ six. out (w.causes.output six))

pub returns-in-Err-clause-causes : goal.returns-in-Err-clause-causes
returns-in-Err-clause-causes g c = wider same (never _) (alone refl) (alone refl) (alone refl) (at_file (at_files c.args.cube.now (seen g.F.Folder.state c.args.world.now.files c.open_guarded.new.files) c.in-Err.report c.in-Err.ensures.err) c.in-Err.ensures.reads.steady_err)

pub returns-in-Err-open_guarded-clause-causes : goal.returns-in-Err-open_guarded-clause-causes
returns-in-Err-open_guarded-clause-causes g c = wider (later c.in-Ok.ensures.reads.steady refl) (never _) (alone refl) (alone refl) (alone refl) (at_file (at_files c.args.older.now (seen g.F.Folder.state c.open_guarded.new.files c.open_guarded-2.new.files) c.in-Err-open_guarded.report c.in-Err-open_guarded.ensures.err) c.in-Err-open_guarded.ensures.reads.steady_err)

pub returns-in-Err-open_book-clause-causes : goal.returns-in-Err-open_book-clause-causes
returns-in-Err-open_book-clause-causes g c = wider (alone (c.in-Ok-open_guarded.ensures.reads.steady ∙ c.in-Ok.ensures.reads.steady)) (λ e. e) (alone refl) (alone refl) (alone refl) (at_journals c.in-Ok-open_guarded.guarded.value.core (under c.in-Ok-open_guarded.guarded.value.policy) (seen g.S.Store.state c.args.world.now.store c.open_book.new.store) c.in-Err-open_book.report c.in-Err-open_book.ensures.err.unstarted)

pub returns-clause-causes : goal.returns-clause-causes
returns-clause-causes g c = wider (alone (c.in-Ok-open_guarded.ensures.reads.steady ∙ c.in-Ok.ensures.reads.steady)) (never _) (alone refl) same (alone refl) c.put_said.ensures.causes

pub returns-in-Err-open_book-clause-complete : goal.returns-in-Err-open_book-clause-complete
returns-in-Err-open_book-clause-complete g c = λ all has kept can files store out.
    inr (unstarted.accepted c.in-Ok-open_guarded.guarded.value.core (under c.in-Ok-open_guarded.guarded.value.policy) (seen g.S.Store.state c.args.world.now.store c.open_book.new.store) c.in-Err-open_book.report kept.told (kept.accepted c.in-Ok-open_guarded.guarded.value.core c.in-Ok-open_guarded.guarded.value.policy (make_before c.args.older.now (g.F.Folder.state c.args.world.now.files) (g.F.Folder.state c.open_guarded.new.files) c.in-Ok-open_guarded.guarded.value.core c.in-Ok-open_guarded.guarded.value.policy c.in-Ok.ensures.reads.files c.in-Ok-open_guarded.ensures.ok.1)) store c.in-Err-open_book.ensures.err.unstarted)

pub returns-in-Err-open_book-clause-outcomes : goal.returns-in-Err-open_book-clause-outcomes
returns-in-Err-open_book-clause-outcomes g c = unstarted.unasked c.in-Ok-open_guarded.guarded.value.core (under c.in-Ok-open_guarded.guarded.value.policy) (seen g.S.Store.state c.args.world.now.store c.open_book.new.store) c.in-Err-open_book.report c.in-Err-open_book.ensures.err.unstarted
