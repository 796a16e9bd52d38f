use Rattle.std.proofs.Common.{◌≡◌, ◌≤◌, length, drop}
use Rattle.cube_model.specs.Cubes.{before}
use Rattle.cube_carrying.proofs.keys.is_before.Given as goal

abbrev pub invariant-members : goal.invariant-members
invariant-members l = record {
  within : l.number ≤ length l.other;
  rest : before (drop l.number l.key) (drop l.number l.other) ≡ before l.key l.other;
}
