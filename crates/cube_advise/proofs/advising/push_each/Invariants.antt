use Rattle.std.proofs.Common.{◌≡◌, ◌++◌, drop, flat_map, codes}
use Rattle.cube_advise.specs.Advice.{cuboid_line}
use Rattle.cube_advise.proofs.advising.push_each.Given as goal

abbrev pub invariant-loop-levels : goal.invariant-loop-levels
invariant-loop-levels l = l.text ++ flat_map (cuboid_line l.dims (codes "safe")) (drop l.levels-index l.listed) ≡ l.fn.text ++ flat_map (cuboid_line l.dims (codes "safe")) l.listed
