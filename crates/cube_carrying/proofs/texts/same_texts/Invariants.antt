use Rattle.std.proofs.Common.{◌≡◌, drop}
use Rattle.cube_carry.specs.Continues.{same_texts}
use Rattle.cube_carrying.proofs.texts.same_texts.Given as goal

abbrev pub invariant-texts : goal.invariant-texts
invariant-texts l = same_texts (drop l.number l.texts) (drop l.number l.others) ≡ same_texts l.texts l.others
