use Rattle.std.proofs.Common.{◌≡◌, take, map, ◌++◌}
use Rattle.cube_facts.proofs.layout.needed_columns.Given as goal

abbrev pub invariant-loop-dimension : goal.invariant-loop-dimension
invariant-loop-dimension l = l.names ≡ map (λ d. d.column) (take l.dimension-index l.dims.dimensions)

abbrev pub invariant-loop-measure : goal.invariant-loop-measure
invariant-loop-measure l = l.names ≡ map (λ d. d.column) l.dims.dimensions ++ map (λ m. m.column) (take l.measure-index l.dims.measures)
