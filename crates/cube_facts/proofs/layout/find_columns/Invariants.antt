use Rattle.std.proofs.Common.{◌≡◌, take, drop, map, flat_map, unwrap_or}
use Rattle.cube_model.specs.Checks.{unless}
use Rattle.cube_model.specs.Dims.{found}
use Rattle.cube_facts.specs.FactFile.{column_faults}
use Rattle.cube_facts.proofs.layout.find_columns.Given as goal

abbrev pub invariant-loop-name : goal.invariant-loop-name
invariant-loop-name l = record {
  checked :
      unless (flat_map (column_faults l.header) l.names) (map (λ name. unwrap_or (found name l.header) 0) l.names)
      ≡ unless (flat_map (column_faults l.header) (drop l.name-index l.names)) (map (λ name. unwrap_or (found name l.header) 0) l.names);
  found : l.places ≡ map (λ name. unwrap_or (found name l.header) 0) (take l.name-index l.names);
}
