use Rattle.std.proofs.Common.{◌≡◌, fold, take}
use Rattle.cube_witness.specs.TwinFile.{set_sign}
use Rattle.cube_demo.proofs.hiding.put_signs.Given as goal

abbrev pub invariant-changes : goal.invariant-changes
invariant-changes l = l.signs ≡ fold set_sign l.initial.signs (take l.change-index l.changes)
