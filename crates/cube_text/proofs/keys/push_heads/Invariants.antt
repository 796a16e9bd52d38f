use Rattle.std.proofs.Common.{◌≡◌, ◌++◌, drop, flat_map}
use Rattle.cube_text.specs.Keys.{closed, heads}
use Rattle.cube_text.proofs.keys.push_heads.Given as goal

abbrev pub invariant-loop-d : goal.invariant-loop-d
invariant-loop-d l = l.text ++ flat_map closed (heads (drop l.d l.dims.dimensions) (drop l.d l.levels)) ≡ l.fn.text ++ flat_map closed (heads l.dims.dimensions l.levels)
