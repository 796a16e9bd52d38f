use Rattle.std.proofs.Common.{◌≡◌, ◌+◌, ◌*◌, true, map, drop}
use Rattle.cube_model.specs.Cubes.{are_levels, cuboid_count, cuboid_number}
use Rattle.cube_model.specs.Dims.{plain}
use Rattle.cube_lattice.proofs.number.read_digits.Given as goal

abbrev pub invariant-digits : goal.invariant-digits
invariant-digits l = record {
  split : cuboid_number (map plain l.dimensions) l.levels
      ≡ l.number * cuboid_count (map plain (drop l.place l.dimensions)) + cuboid_number (map plain (drop l.place l.dimensions)) (drop l.place l.levels);
  levels : are_levels (map plain (drop l.place l.dimensions)) (drop l.place l.levels) ≡ true;
}
