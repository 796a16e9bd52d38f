use Rattle.std.proofs.Common.{◌≡◌, not, find, drop}
use Rattle.std.specs.List.{flat_map}
use Rattle.cube_model.specs.Protection.{under}
use Rattle.cube_source.specs.Blocks.{bare}
use Rattle.cube_source.specs.Objects.{of_measure}
use Rattle.cube_carrying.specs.KeptCells as said
use Rattle.cube_carrying.proofs.unkept.unkept_lattice.Given as goal

abbrev pub invariant-objects : goal.invariant-objects
invariant-objects l =
    find (λ t. not (said.is_kept l.crossing.old.now l.crossing.new.now l.crossing.new_policy.now l.crossing.measure t)) (flat_map (under (bare l.crossing.old.now)) (of_measure l.old_measure (drop l.object-index l.objects)))
    ≡ find (λ t. not (said.is_kept l.crossing.old.now l.crossing.new.now l.crossing.new_policy.now l.crossing.measure t)) (flat_map (under (bare l.crossing.old.now)) (of_measure l.old_measure l.objects))
