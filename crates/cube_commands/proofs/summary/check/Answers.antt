use Rattle.std.proofs.Common.{inl, inr, refl}
use Rattle.cube_commands.specs.Summary.{check_text}
use Rattle.cube_io.specs.Seen.{seen}
use Rattle.cube_opening.proofs.Accepted.{all_accepted}
use Rattle.cube_opening.proofs.Ended.{unasked}
use Rattle.cube_opening.proofs.Causes.{same, alone, wider, at_file, at_files, never}
use Rattle.cube_commands.proofs.summary.check.Goals as goal

pub returns-clause-checks : goal.returns-clause-checks
returns-clause-checks g c = inr (
  record {
    core = c.in-Ok.opened.value.core;
    policy = c.in-Ok.opened.value.policy;
    files_make = c.in-Ok.ensures.ok.1;
    printed = c.put_text.ensures.puts (check_text c.in-Ok.opened.value.core c.in-Ok.opened.value.policy) c.check_text-text.ensures;
  },
  c.in-Ok.ensures.behind,
)

pub returns-in-Err-clause-complete : goal.returns-in-Err-clause-complete
returns-in-Err-clause-complete g c = λ all files out. inr (all_accepted c.args.cube.now (seen g.F.Folder.state c.args.world.now.files c.open_guarded.new.files) c.in-Err.report c.in-Err.ensures.err all files)

pub returns-in-Err-clause-checks : goal.returns-in-Err-clause-checks
returns-in-Err-clause-checks g c = inl (c.in-Err.ensures.err, refl)

pub returns-in-Err-clause-outcomes : goal.returns-in-Err-clause-outcomes
returns-in-Err-clause-outcomes g c = unasked c.args.cube.now (seen g.F.Folder.state c.args.world.now.files c.open_guarded.new.files) c.in-Err.report c.in-Err.ensures.err

pub returns-in-Err-clause-causes : goal.returns-in-Err-clause-causes
returns-in-Err-clause-causes g c = wider same (never _) (alone refl) (alone refl) (alone refl) (at_file (at_files c.args.cube.now (seen g.F.Folder.state c.args.world.now.files c.open_guarded.new.files) c.in-Err.report c.in-Err.ensures.err) c.in-Err.ensures.reads.steady_err)

pub returns-clause-causes : goal.returns-clause-causes
returns-clause-causes g c = wider (alone c.in-Ok.ensures.reads.steady) (never _) (alone refl) same (alone refl) c.put_text.ensures.causes
