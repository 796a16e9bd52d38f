use Rattle.std.proofs.Common.{◌≡◌, take, map, Ok, All}
use Rattle.csv.specs.Records.{fields_of}
use Rattle.cube_text.specs.Units.{units_of}
use Rattle.cube_facts.specs.FactFile.{field_in}
use Rattle.cube_facts.specs.Table.{IsUnits}
use Rattle.cube_facts.proofs.layout.Layout.take_units.Given as goal

abbrev pub invariant-loop-number : goal.invariant-loop-number
invariant-loop-number l = record {
  said : map (λ m. units_of m.decimals (field_in l.self.header (fields_of l.row) m.column)) (take l.number l.self.dims.now.measures) ≡ map Ok l.units.items;
  bounded : All IsUnits l.units.items;
}
