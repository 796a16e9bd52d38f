use Rattle.std.proofs.Common.{◌∙◌, arith}
use Rattle.cube_lattice.proofs.Steps.{below_more}
use Rattle.cube_lattice.proofs.below.cuboids_below.Goals as goal

pub levels-preserved : goal.levels-preserved
levels-preserved c = below_more c.as_slice-levels.result.now c.levels.place c.as_slice.result.now c.in_ok-below.below (omega arith) (omega arith) (c.as_slice.ensures ∙ c.levels.invariant) c.in_ok-below.ensures
