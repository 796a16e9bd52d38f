use Rattle.std.proofs.Common.{◌≡◌, drop, flat_map}
use Rattle.cube_model.specs.Checks.{unless}
use Rattle.cube_facts.specs.FactFile.{leaf_faults}
use Rattle.cube_facts.proofs.layout.check_leaves.Given as goal

abbrev pub invariant-loop-dimension : goal.invariant-loop-dimension
invariant-loop-dimension l =
    unless (flat_map (leaf_faults l.row (l.name, l.field)) l.dimensions) (tt {0})
    ≡ unless (flat_map (leaf_faults l.row (l.name, l.field)) (drop l.dimension-index l.dimensions)) (tt {0})
