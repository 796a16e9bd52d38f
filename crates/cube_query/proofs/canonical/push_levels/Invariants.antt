use Rattle.std.proofs.Common.{◌≡◌, ◌++◌, drop}
use Rattle.cube_query.specs.Canonical.{behind, by_texts}
use Rattle.cube_query.proofs.canonical.push_levels.Given as goal

abbrev pub invariant-loop-d : goal.invariant-loop-d
invariant-loop-d l = l.text ++ behind l.separator (by_texts (drop l.d l.dims.dimensions) (drop l.d l.levels)) ≡ l.fn.text ++ behind l.word (by_texts l.dims.dimensions l.levels)
