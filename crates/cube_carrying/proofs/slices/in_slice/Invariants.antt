use Rattle.std.specs.List.{list_all}
use Rattle.std.proofs.Common.{◌≡◌, drop}
use Rattle.cube_model.specs.Protection as protection
use Rattle.cube_source.specs.Blocks.{bare}
use Rattle.cube_carrying.proofs.slices.in_slice.Given as goal

abbrev pub invariant-slice : goal.invariant-slice
invariant-slice l = list_all (protection.is_within (bare l.core) l.place) (drop l.within-index l.object.slice) ≡ protection.in_slice (bare l.core) l.object l.place
