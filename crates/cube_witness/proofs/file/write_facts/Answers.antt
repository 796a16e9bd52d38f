use Rattle.cube_model.specs.Dims.{column_names}
use Rattle.cube_text.specs.Quoting.{csv_line}
use Rattle.cube_witness.specs.TwinFile.{place_lines}
use Rattle.cube_witness.specs.Twinned.{cube_of}
use Rattle.cube_witness.proofs.Files.{lines_more}
use Rattle.cube_witness.proofs.file.write_facts.Goals as goal

pub places-preserved : goal.places-preserved
places-preserved g c =
    lines_more (place_lines c.args.twin.now.core.now.dims c.args.twin.now.core.now.shape (cube_of c.args.twin.now)) (csv_line (column_names c.args.twin.now.core.now.dims)) c.places.text c.push_place.new.text c.places.place c.places.invariant c.in_ok-push_place.ensures
