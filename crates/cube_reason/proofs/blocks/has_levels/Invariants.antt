use Rattle.std.proofs.Common.{◌≡◌, map, drop}
use Rattle.cube_model.specs.Cubes.{are_levels}
use Rattle.cube_model.specs.Dims.{plain}
use Rattle.cube_reason.proofs.blocks.has_levels.Given as goal

abbrev pub invariant-dimensions : goal.invariant-dimensions
invariant-dimensions l = are_levels (map plain (drop l.d l.dimensions)) (drop l.d l.levels) ≡ are_levels (map plain l.dimensions) l.levels
