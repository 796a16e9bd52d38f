use Rattle.std.proofs.Common.{◌≡◌, filter}
use Rattle.cube_model.specs.Cubes.{covers, count_from}
use Rattle.cube_source.specs.Blocks.{bare}
use Rattle.cube_demo.proofs.sums.covered_places.Given as goal

abbrev pub invariant-places : goal.invariant-places
invariant-places l = l.found ≡ filter (covers (bare l.core) l.cell) (count_from 0 l.place)
