use Rattle.cube_witness.specs.TwinFile.{fact_line}
use Rattle.cube_witness.specs.Twinned.{cube_of}
use Rattle.cube_witness.proofs.Files.{lines_more}
use Rattle.cube_witness.proofs.file.push_place.Goals as goal

pub facts-preserved : goal.facts-preserved
facts-preserved g c =
    lines_more (fact_line c.args.twin.now.core.now.dims c.args.twin.now.core.now.shape (cube_of c.args.twin.now) c.args.place) c.args.text.now c.facts.text c.push_fact.new.text c.facts.number c.facts.invariant c.in_ok-push_fact.ensures
