use Rattle.std.proofs.Common.{◌≡◌, drop, flat_map, zip}
use Rattle.csv.specs.Records.{fields_of}
use Rattle.cube_model.specs.Checks.{unless}
use Rattle.cube_facts.specs.FactFile.{field_faults}
use Rattle.cube_facts.proofs.layout.Layout.check_fields.Given as goal

abbrev pub invariant-loop-column : goal.invariant-loop-column
invariant-loop-column l =
    unless (flat_map (field_faults l.self.dims.now l.number) (zip l.self.header (fields_of l.row))) (tt {0})
    ≡ unless (flat_map (field_faults l.self.dims.now l.number) (drop l.column (zip l.self.header (fields_of l.row)))) (tt {0})
