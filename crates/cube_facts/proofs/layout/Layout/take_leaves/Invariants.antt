use Rattle.std.proofs.Common.{◌≡◌, take, map, Some}
use Rattle.csv.specs.Records.{fields_of}
use Rattle.cube_facts.specs.FactFile.{leaf_of, field_in}
use Rattle.cube_facts.proofs.layout.Layout.take_leaves.Given as goal

abbrev pub invariant-loop-number : goal.invariant-loop-number
invariant-loop-number l = map (λ d. leaf_of d (field_in l.self.header (fields_of l.row) d.column)) (take l.number l.self.dims.now.dimensions) ≡ map Some l.leaves.items
