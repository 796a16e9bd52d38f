use Rattle.std.proofs.Common.{◌≡◌, ◌++◌, [], drop}
use Rattle.cube_query.specs.Canonical.{behind}
use Rattle.cube_answers.specs.VerdictText.{key_texts}
use Rattle.cube_answers.proofs.cells.push_members.Given as goal

abbrev pub invariant-loop-d : goal.invariant-loop-d
invariant-loop-d l = l.text ++ behind l.separator (key_texts (drop l.d l.dims.dimensions) (drop l.d l.levels) (drop l.d l.key)) ≡ l.fn.text ++ behind [] (key_texts l.dims.dimensions l.levels l.key)
