use Rattle.std.proofs.Common.{◌≡◌, ◌++◌, length, take, drop}
use Rattle.cube_model.specs.Cubes.{meet}
use Rattle.cube_lattice.proofs.order.meet_into.Given as goal

abbrev pub invariant-levels : goal.invariant-levels
invariant-levels l = record {
  lowered : meet l.initial.a l.b ≡ take l.place l.a ++ meet (drop l.place l.a) (drop l.place l.b);
  even : length l.a ≡ length l.b;
}
