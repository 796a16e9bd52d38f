use Rattle.std.proofs.Common.{◌≡◌, drop}
use Rattle.cube_model.specs.Cubes as cubes
use Rattle.cube_lattice.proofs.below.cuboids_below.Given as goal

abbrev pub invariant-levels : goal.invariant-levels
invariant-levels l = l.below ≡ cubes.cuboids_below (drop l.place l.levels)
