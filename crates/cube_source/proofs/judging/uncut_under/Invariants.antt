use Rattle.std.proofs.Common.{◌≡◌, not, find, drop}
use Rattle.std.specs.List.{flat_map}
use Rattle.cube_model.specs.Protection.{touched, under}
use Rattle.cube_source.specs.Blocks.{bare, is_parted}
use Rattle.cube_source.proofs.judging.uncut_under.Given as goal

abbrev pub invariant-levels : goal.invariant-levels
invariant-levels l =
    find (λ cell. not (is_parted (bare l.core) l.blocks cell)) (flat_map (touched (bare l.core) l.object) (drop l.levels-index l.levels-items))
    ≡ find (λ cell. not (is_parted (bare l.core) l.blocks cell)) (under (bare l.core) l.object)
