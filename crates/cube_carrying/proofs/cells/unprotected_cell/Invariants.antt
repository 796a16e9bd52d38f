use Rattle.std.proofs.Common.{◌≡◌, ℕ, ◌<◌, not, find, None}
use Rattle.cube_model.specs.Protection.{protected}
use Rattle.cube_carry.specs.Continues.{protects}
use Rattle.cube_carry.specs.Names.{named, known}
use Rattle.cube_carrying.proofs.cells.unprotected_cell.Given as goal

abbrev pub invariant-each : goal.invariant-each
invariant-each l = (k : ℕ) → k < l.measure → find (λ t. not (protects (named l.old l.old_policy) (named l.new l.new_policy) k t)) (protected (known (named l.old l.old_policy)) k) ≡ None
