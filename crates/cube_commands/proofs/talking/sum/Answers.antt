use Rattle.std.proofs.Common.{inr, refl}
use Rattle.cube_io.specs.Seen.{seen}
use Rattle.cube_opening.specs.Opening.{flat_said}
use Rattle.cube_opening.proofs.Causes.{same, alone, never, wider, no_memory, at_file, at_one}
use Rattle.cube_commands.proofs.Causes.{at_talk}
use Rattle.cube_commands.proofs.talking.sum.Goals as goal

pub returns-clause-answers : goal.returns-clause-answers
returns-clause-answers g c = inr (
  record {
    flat = c.in-Ok.opened.value;
    end = c.converse_by_sums-lines.result.0;
    lines = c.converse_by_sums-lines.result.1;
    file = c.in-Ok.ensures.ok.1;
    reported = c.report_talk.ensures;
    talked = c.converse_by_sums-lines.ensures.talked;
  },
  record { asked = c.in-Ok.ensures.asks; steady = c.in-Ok.ensures.reads.steady },
)

pub returns-in-Err-clause-causes : goal.returns-in-Err-clause-causes
returns-in-Err-clause-causes g c = wider same (never _) (alone refl) (alone refl) (alone refl) (at_file (at_one flat_said c.args.name.now (seen g.F.Folder.state c.args.world.now.files c.open_flat.new.files) _ c.in-Err.ensures.err.unopened) c.in-Err.ensures.reads.steady_err)

pub returns-in_default-clause-causes : goal.returns-in_default-clause-causes
returns-in_default-clause-causes g c = no_memory c.close.ensures.0 (record { files = c.in-Ok.ensures.reads.steady; input = refl; out = refl; wire = refl })

pub returns-clause-causes : goal.returns-clause-causes
returns-clause-causes g c = at_talk (c.converse_by_sums-lines.result.0).ending c.report_talk.ensures.0 c.converse_by_sums-lines.ensures.input c.converse_by_sums-lines.ensures.output c.in-Ok.ensures.reads.steady refl
