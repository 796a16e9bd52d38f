use Rattle.std.proofs.Common.{◌≡◌, not, find, drop}
use Rattle.std.specs.List.{flat_map}
use Rattle.cube_model.specs.Protection.{touched, under}
use Rattle.cube_source.specs.Blocks.{bare}
use Rattle.cube_carrying.specs.KeptCells as said
use Rattle.cube_carrying.proofs.unkept.unkept_below.Given as goal

abbrev pub invariant-levels : goal.invariant-levels
invariant-levels l =
    find (λ t. not (said.is_kept l.crossing.old.now l.crossing.new.now l.crossing.new_policy.now l.crossing.measure t)) (flat_map (touched (bare l.crossing.old.now) l.object) (drop l.levels-index l.levels-items))
    ≡ find (λ t. not (said.is_kept l.crossing.old.now l.crossing.new.now l.crossing.new_policy.now l.crossing.measure t)) (under (bare l.crossing.old.now) l.object)
