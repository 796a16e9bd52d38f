use Rattle.std.proofs.Common.{◌∙◌}
use Rattle.cube_witness.specs.TwinFile.{share_text}
use Rattle.cube_witness.specs.Twinned.{cube_of}
use Rattle.cube_witness.proofs.Files.{fields_more}
use Rattle.cube_witness.proofs.file.push_shares.Goals as goal

pub measures-preserved : goal.measures-preserved
measures-preserved g c =
    fields_more (share_text c.args.twin.now.core.now.dims c.args.twin.now.core.now.shape (cube_of c.args.twin.now) c.args.place c.args.number) c.args.text.now c.measures.text c.push_closed.new.text c.as_slice.result.now c.measures.measure c.measures.invariant (c.as_slice.ensures ∙ c.in_ok-share.ensures) c.in_ok-push_closed.ensures
