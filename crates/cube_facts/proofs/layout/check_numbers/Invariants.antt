use Rattle.std.proofs.Common.{◌≡◌, drop, flat_map}
use Rattle.cube_model.specs.Checks.{unless}
use Rattle.cube_facts.specs.FactFile.{number_faults}
use Rattle.cube_facts.proofs.layout.check_numbers.Given as goal

abbrev pub invariant-loop-measure : goal.invariant-loop-measure
invariant-loop-measure l =
    unless (flat_map (number_faults l.row (l.name, l.field)) l.measures) (tt {0})
    ≡ unless (flat_map (number_faults l.row (l.name, l.field)) (drop l.measure-index l.measures)) (tt {0})
