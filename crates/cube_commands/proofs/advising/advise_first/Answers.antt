use Rattle.std.proofs.Common.{inl, inr, refl, []}
use Rattle.cube_io.specs.Seen.{seen}
use Rattle.cube_advise.specs.Telling.{first_text}
use Rattle.cube_commands.proofs.Advised.{is_advice}
use Rattle.cube_commands.proofs.Unread.{all_read, at_advised}
use Rattle.cube_opening.proofs.Causes.{same, alone, wider, at_file, never}
use Rattle.cube_commands.proofs.advising.advise_first.Goals as goal

pub returns-in-Err-clause-answers : goal.returns-in-Err-clause-answers
returns-in-Err-clause-answers g c = inl (c.in-Err.ensures.err, refl)

pub returns-in-Err-clause-complete : goal.returns-in-Err-clause-complete
returns-in-Err-clause-complete g c = λ all has kept files store out. inr (all_read c.args.cube.now c.args.workload.now (seen g.F.Folder.state c.args.world.now.files c.open_advisable.new.files) c.in-Err.report c.in-Err.ensures.err all has files)

pub returns-in-Err-clause-outcomes : goal.returns-in-Err-clause-outcomes
returns-in-Err-clause-outcomes g c = (at_advised c.args.cube.now c.args.workload.now (seen g.F.Folder.state c.args.world.now.files c.open_advisable.new.files) c.in-Err.report c.in-Err.ensures.err).outcomes

pub returns-clause-answers : goal.returns-clause-answers
returns-clause-answers g c =
    let read = c.in-Ok.opened.value in
    let core = read.guarded.core in
    let policy = read.guarded.policy in
    inr (
      record {
        core = core;
        policy = policy;
        files_make = c.in-Ok.ensures.ok.1;
        bytes = read.workload;
        said = c.in-Ok.ensures.said;
        is = is_advice core policy [] c.dims-rules.ensures.rules c.in-Ok.ensures.rules tt;
        puts = c.put_text.ensures.puts (first_text core policy read.workload) c.told_first-text.ensures;
      },
      c.in-Ok.ensures.behind,
    )

pub returns-in-Err-clause-causes : goal.returns-in-Err-clause-causes
returns-in-Err-clause-causes g c = wider same (never _) (alone refl) (alone refl) (alone refl) (at_file (at_advised c.args.cube.now c.args.workload.now (seen g.F.Folder.state c.args.world.now.files c.open_advisable.new.files) c.in-Err.report c.in-Err.ensures.err) c.in-Err.ensures.steady_err)

pub returns-clause-causes : goal.returns-clause-causes
returns-clause-causes g c = wider (alone c.in-Ok.ensures.steady) (never _) (alone refl) same (alone refl) c.put_text.ensures.causes
