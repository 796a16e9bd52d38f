use Rattle.std.proofs.Common.{◌≡◌, ◌++◌, flat_map}
use Rattle.cube_model.specs.Cubes.{count_from}
use Rattle.cube_witness.specs.TwinFile.{fact_line}
use Rattle.cube_witness.specs.Twinned.{cube_of}
use Rattle.cube_witness.proofs.file.push_place.Given as goal

abbrev pub invariant-facts : goal.invariant-facts
invariant-facts g l = l.text ≡ l.fn.text ++ flat_map (fact_line l.twin.core.now.dims l.twin.core.now.shape (cube_of l.twin) l.place) (count_from 0 l.number)
