use Rattle.std.proofs.Common.{◌≡◌, ◌*◌, ◌≤◌, drop}
use Rattle.cube_core.specs.Full.{vector_count}
use Rattle.cube_core.proofs.core_cube.has_vectors.Given as goal

abbrev pub invariant-dimensions : goal.invariant-dimensions
invariant-dimensions l = record {
  counted : l.vectors * vector_count (drop l.dimension-index l.dimensions) ≡ vector_count l.dimensions;
  few : l.vectors ≤ 65536;
}
