use Rattle.std.proofs.Common.{◌∙◌, ◌++◌, ◌∷◌, [], ℕ, List, Option, Ok, inl, inr, refl, subst}
use Rattle.std.specs.Prelude.{IfSome}
use Rattle.cube_io.specs.Seen.{seen}
use Rattle.cube_opening.specs.Opening.{FileSays, names_of}
use Rattle.cube_audit.specs.Audits.{audited}
use Rattle.cube_audit.specs.AuditText.{audited_text}
use Rattle.cube_opening.proofs.Accepted.{all_accepted, last_accepted}
use Rattle.cube_opening.proofs.Behind.{asked_then, ends_behind}
use Rattle.cube_opening.proofs.Ended.{one_unasked, unasked}
use Rattle.cube_commands.specs.Auditing.{is_yes, transcript_said}
use Rattle.cube_opening.proofs.Causes.{same, alone, later, wider, at_file, at_files, at_one, never}
use Rattle.cube_commands.proofs.Whether.{judged}
use Rattle.cube_commands.proofs.auditing.audit.Goals as goal

pub returns-in-Err-clause-answers : goal.returns-in-Err-clause-answers
returns-in-Err-clause-answers g c = inl (c.in-Err.ensures.err, refl)

pub returns-in-Err-clause-complete : goal.returns-in-Err-clause-complete
returns-in-Err-clause-complete g c = λ all has files out. inl (inr (all_accepted c.args.cube.now (seen g.F.Folder.state c.args.world.now.files c.open_guarded.new.files) c.in-Err.report c.in-Err.ensures.err all files))

pub returns-in-Err-clause-outcomes : goal.returns-in-Err-clause-outcomes
returns-in-Err-clause-outcomes g c = unasked c.args.cube.now (seen g.F.Folder.state c.args.world.now.files c.open_guarded.new.files) c.in-Err.report c.in-Err.ensures.err

pub returns-in-Err-open_transcript-clause-answers : goal.returns-in-Err-open_transcript-clause-answers
returns-in-Err-open_transcript-clause-answers g c =
    let x = c.in-Ok.ensures in
    inr (inl (
      record {
        core = c.in-Ok.opened.value.core;
        policy = c.in-Ok.opened.value.policy;
        files_make = x.ok.1;
        ends = ends_behind (names_of c.args.cube.now) transcript_said c.args.transcript.now g.F.Folder.state c.args.world.now.files c.open_guarded.new.files c.open_transcript.new.files c.in-Err-open_transcript.report x.behind.asked x.reads.files x.behind.steady c.in-Err-open_transcript.ensures.err;
      },
      refl,
    ))

pub returns-in-Err-open_transcript-clause-complete : goal.returns-in-Err-open_transcript-clause-complete
returns-in-Err-open_transcript-clause-complete g c = λ all has files out.
    let x = c.in-Ok.ensures in
    let ends = ends_behind (names_of c.args.cube.now) transcript_said c.args.transcript.now g.F.Folder.state c.args.world.now.files c.open_guarded.new.files c.open_transcript.new.files c.in-Err-open_transcript.report x.behind.asked x.reads.files x.behind.steady c.in-Err-open_transcript.ensures.err in
    inl (inr (last_accepted (names_of c.args.cube.now) transcript_said c.args.transcript.now (seen g.F.Folder.state c.args.world.now.files c.open_transcript.new.files) c.in-Err-open_transcript.report ends has files))

pub returns-in-Err-open_transcript-clause-outcomes : goal.returns-in-Err-open_transcript-clause-outcomes
returns-in-Err-open_transcript-clause-outcomes g c = one_unasked transcript_said c.args.transcript.now (seen g.F.Folder.state c.open_guarded.new.files c.open_transcript.new.files) c.in-Err-open_transcript.report c.in-Err-open_transcript.ensures.err.unopened

pub returns-clause-answers : goal.returns-clause-answers
returns-clause-answers g c =
    let x = c.in-Ok.ensures in
    let z = c.in-Ok-open_transcript.ensures in
    let items = c.in-Ok-open_transcript.read.value in
    inr (inr (
      record {
        core = c.in-Ok.opened.value.core;
        policy = c.in-Ok.opened.value.policy;
        items = items;
        files_make = x.ok.1;
        items_are = subst (λ (fs : Option (List (List ℕ × List ℕ))). IfSome fs (λ known. FileSays transcript_said c.args.transcript.now known (Ok items))) x.reads.files z.ok.1;
        printed = c.put_whether.ensures.puts (audited_text c.in-Ok.opened.value.core.dims (audited c.in-Ok.opened.value.core c.in-Ok.opened.value.policy items)) (is_yes (audited c.in-Ok.opened.value.core c.in-Ok.opened.value.policy items)) c.line_of-line.ensures.line;
        sound = c.line_of-line.ensures.sound;
      },
      record { asked = asked_then (names_of c.args.cube.now) (c.args.transcript.now ∷ []) g.F.Folder.state c.args.world.now.files c.open_guarded.new.files c.open_transcript.new.files x.behind.asked z.asks; steady = z.reads.steady ∙ x.behind.steady },
    ))

pub returns-in-Err-clause-causes : goal.returns-in-Err-clause-causes
returns-in-Err-clause-causes g c = wider same (never _) (alone refl) (alone refl) (alone refl) (at_file (at_files c.args.cube.now (seen g.F.Folder.state c.args.world.now.files c.open_guarded.new.files) c.in-Err.report c.in-Err.ensures.err) c.in-Err.ensures.reads.steady_err)

pub returns-in-Err-open_transcript-clause-causes : goal.returns-in-Err-open_transcript-clause-causes
returns-in-Err-open_transcript-clause-causes g c = wider (later c.in-Ok.ensures.reads.steady refl) (never _) (alone refl) (alone refl) (alone refl) (at_file (at_one transcript_said c.args.transcript.now (seen g.F.Folder.state c.open_guarded.new.files c.open_transcript.new.files) _ c.in-Err-open_transcript.ensures.err.unopened) c.in-Err-open_transcript.ensures.reads.steady_err)

pub returns-clause-causes : goal.returns-clause-causes
returns-clause-causes g c = wider (alone (c.in-Ok-open_transcript.ensures.reads.steady ∙ c.in-Ok.ensures.reads.steady)) (never _) (alone refl) same (alone refl) c.put_whether.ensures.causes

pub returns-clause-complete : goal.returns-clause-complete
returns-clause-complete g c = λ all has files out. judged c.put_whether.result.status c.put_whether.ensures.status (λ six. out (c.put_whether.ensures.causes.output six))
