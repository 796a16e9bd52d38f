use Rattle.std.proofs.Common.{◌≡◌, ◌++◌, drop, flat_map}
use Rattle.cube_answers.specs.AnswerText.{row_line}
use Rattle.cube_answers.proofs.answers.push_rows.Given as goal

abbrev pub invariant-loop-row : goal.invariant-loop-row
invariant-loop-row l = l.text ++ flat_map (row_line l.dims l.request) (drop l.row-index l.rows) ≡ l.fn.text ++ flat_map (row_line l.dims l.request) l.rows
