use Rattle.std.proofs.Common.{◌≡◌, map, take}
use Rattle.cube_rollup.specs.Cuboids.{first_of_row}
use Rattle.cube_rollup.proofs.building.first_points.Given as goal

abbrev pub invariant-rows : goal.invariant-rows
invariant-rows l = l.points ≡ map (first_of_row l.core) (take l.row-index l.rows)
