-- The text of an answer: a line of CSV for its header, and one for each row.
use Rattle.std.specs.Prelude.{⊤, ◌≡◌, ◌<◌, ℕ, List, [], ◌∷◌, ◌++◌, length, flat_map, codes, ℤ}
use Rattle.std.specs.List.{All}
use Rattle.cube_model.specs.declared.answer.AnswerRow.{AnswerRow}
use Rattle.cube_model.specs.declared.request.Request.{Request}
use Rattle.cube_model.specs.declared.request.What.{What}
use Rattle.cube_model.specs.declared.request.What.TheVariants.{Count, Measure}
use Rattle.cube_model.specs.Dims.{Dims, measure_at}
use Rattle.cube_text.specs.Keys.{heads, key_names, KeyFits}
use Rattle.cube_text.specs.Quoting.{csv_line}
use Rattle.cube_text.specs.Units.{units_text}

abbrev pub what_name : Dims → What → List ℕ
what_name s Count = codes "count"
what_name s (Measure m) = (measure_at s m).name

-- a number of facts, or a sum with the decimals of its measure
abbrev pub sum_text : Dims → What → ℤ → List ℕ
sum_text s Count sum = units_text 0 sum
sum_text s (Measure m) sum = units_text (measure_at s m).decimals sum

abbrev pub header_line : Dims → Request → List ℕ
header_line s r = csv_line (heads s.dimensions r.group ++ what_name s r.what ∷ [])

abbrev pub row_line : Dims → Request → AnswerRow → List ℕ
row_line s r row = csv_line (key_names s.dimensions r.group row.key ++ sum_text s r.what row.sum ∷ [])

-- the text of the answer to a request
abbrev pub answer_text : Dims → Request → List AnswerRow → List ℕ
answer_text s r rows = header_line s r ++ flat_map (row_line s r) rows

-- ---- what an answer has to be

-- a row with a member of each grouping level
pub record RowFits (s : Dims) (r : Request) (row : AnswerRow) : Type 0 where
  pub long : length row.key ≡ length s.dimensions
  pub there : KeyFits s r.group row.key

abbrev pub IsThere : Dims → What → Type 0
IsThere s Count = ⊤
IsThere s (Measure m) = m < length s.measures

-- what is asked of the answer to a request: a level of each dimension, a measure that there is, and rows that fit
pub record IsAnswer (s : Dims) (r : Request) (answer : List AnswerRow) : Type 0 where
  pub levels : length r.group ≡ length s.dimensions
  pub measure : IsThere s r.what
  pub rows : All (RowFits s r) answer
