use Rattle.std.proofs.Common.{◌≡◌, ◌++◌, map, drop, flat_map}
use Rattle.cube_text.specs.Keys.{closed}
use Rattle.cube_witness.proofs.file.push_dimension_columns.Given as goal

abbrev pub invariant-loop-dimension : goal.invariant-loop-dimension
invariant-loop-dimension l = l.text ++ flat_map closed (map (λ d. d.column) (drop l.dimension-index l.dimensions)) ≡ l.fn.text ++ flat_map closed (map (λ d. d.column) l.dimensions)
