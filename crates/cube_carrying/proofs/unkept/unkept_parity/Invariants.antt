use Rattle.std.proofs.Common.{◌≡◌, ℕ, ◌<◌, false, not, ◌&&◌}
use Rattle.cube_model.specs.Protection as protection
use Rattle.cube_source.specs.Blocks.{bare}
use Rattle.cube_source.specs.Objects.{of_measure}
use Rattle.cube_carrying.specs.KeptCells as said
use Rattle.cube_carrying.proofs.unkept.unkept_parity.Given as goal

abbrev pub invariant-places : goal.invariant-places
invariant-places l = (k : ℕ) → k < l.place → (protection.is_guarded (bare l.crossing.old.now) (of_measure l.old_measure l.crossing.old_policy.now.objects) k && not (said.is_kept l.crossing.old.now l.crossing.new.now l.crossing.new_policy.now l.crossing.measure (protection.core_cell (bare l.crossing.old.now) k))) ≡ false
