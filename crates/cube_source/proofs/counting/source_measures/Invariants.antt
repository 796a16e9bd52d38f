use Rattle.std.proofs.Common.{◌≡◌, filter}
use Rattle.cube_model.specs.Cubes.{count_from}
use Rattle.cube_source.specs.Counts.{has_source}
use Rattle.cube_source.proofs.counting.source_measures.Given as goal

abbrev pub invariant-each : goal.invariant-each
invariant-each l = l.measures.items ≡ filter (has_source l.policy) (count_from 0 l.measure)
