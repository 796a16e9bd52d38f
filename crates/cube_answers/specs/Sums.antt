-- What is summed for a request.
use Rattle.std.specs.Prelude.{ℕ, List, [], map, flat_map, slice_index_or, ℤ, pos}
use Rattle.cube_model.specs.declared.answer.AnswerRow.{AnswerRow}
use Rattle.cube_model.specs.declared.answer.Row.{Row}
use Rattle.cube_model.specs.declared.request.Request.{Request}
use Rattle.cube_model.specs.declared.request.What.{What}
use Rattle.cube_model.specs.declared.request.What.TheVariants.{Count, Measure}
use Rattle.cube_model.specs.Cores.{Core}
use Rattle.cube_model.specs.Dims.{Dims}
use Rattle.cube_model.specs.Requests.{total}
use Rattle.cube_core.specs.Grouping.{pointed}
use Rattle.cube_core.specs.Tallies.{row_of_tally}
use Rattle.cube_core.specs.declared.tally.Tally.{Tally}
use Rattle.cube_answers.specs.AnswerText.{row_line}

-- the values of a measure, or the numbers of facts, at the places of a core
abbrev pub values_of : Core → What → List ℤ
values_of c Count = map pos c.shape.facts
values_of c (Measure m) = slice_index_or c.cube m []

-- a row with its sum
abbrev pub row_sum : Core → What → Row → AnswerRow
row_sum c what row = record { key = row.key; sum = total (values_of c what) row.places }

-- the line of a tally, where it has a place
abbrev pub lines_of_tally : Dims → List (List ℕ) → Request → Tally → List ℕ
lines_of_tally s points r t = flat_map (row_line s r) (row_of_tally (pointed s points) r t)
