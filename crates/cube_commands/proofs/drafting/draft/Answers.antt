use Rattle.std.proofs.Common.{refl}
use Rattle.std.specs.Prelude.{codes}
use Rattle.cube_io.specs.Seen.{seen}
use Rattle.cube_opening.proofs.Causes.{same, alone, wider, at_file, never}
use Rattle.cube_commands.proofs.Causes.{at_bytes, undrafted}
use Rattle.cube_commands.proofs.drafting.draft.Goals as goal

pub returns-in-Err-clause-causes : goal.returns-in-Err-clause-causes
returns-in-Err-clause-causes g c = wider same (never _) (alone refl) (alone refl) (alone refl) (at_file (at_bytes (codes "facts") c.args.drafting.now.facts (seen g.F.Folder.state c.args.world.now.files c.read_bytes.new.files) _ c.in-Err.ensures.err) c.in-Err.ensures.reads.steady_err)

pub returns-in-Ok-draft_files-clause-causes : goal.returns-in-Ok-draft_files-clause-causes
returns-in-Ok-draft_files-clause-causes g c = wider (alone c.in-Ok.ensures.reads.steady) (never _) (alone refl) same (alone refl) c.print.ensures.causes

pub returns-clause-causes : goal.returns-clause-causes
returns-clause-causes g c = undrafted c.refuse_draft.ensures (record { files = c.in-Ok.ensures.reads.steady; input = refl; out = refl; wire = refl })
