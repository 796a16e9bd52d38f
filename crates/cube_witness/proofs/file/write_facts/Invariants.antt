use Rattle.std.proofs.Common.{◌≡◌, ◌++◌, flat_map}
use Rattle.cube_model.specs.Cubes.{count_from}
use Rattle.cube_model.specs.Dims.{column_names}
use Rattle.cube_text.specs.Quoting.{csv_line}
use Rattle.cube_witness.specs.TwinFile.{place_lines}
use Rattle.cube_witness.specs.Twinned.{cube_of}
use Rattle.cube_witness.proofs.file.write_facts.Given as goal

abbrev pub invariant-places : goal.invariant-places
invariant-places g l = l.text ≡ csv_line (column_names l.twin.core.now.dims) ++ flat_map (place_lines l.twin.core.now.dims l.twin.core.now.shape (cube_of l.twin)) (count_from 0 l.place)
