-- Which protected cells the changes behind a history hide from the requests that were answered.
use Rattle.std.specs.List.{list_all}
use Rattle.std.specs.Ordering.{int_eq}
use Rattle.std.specs.Prelude.{ℕ, Bool, ◌&&◌, List, [], map, filter, take, count_by, ℤ, pos}
use Rattle.cube_model.specs.declared.answer.Row.{Row}
use Rattle.cube_model.specs.declared.cell.Cell.{Cell}
use Rattle.cube_model.specs.declared.entry.Entry.{Entry}
use Rattle.cube_model.specs.declared.request.Request.{Request}
use Rattle.cube_model.specs.declared.verdict.Verdict.{Verdict}
use Rattle.cube_model.specs.Cubes.{Public, covered}
use Rattle.cube_model.specs.Protection.{protected}
use Rattle.cube_model.specs.Requests.{asks, rows, total}
use Rattle.cube_model.specs.Twins.{changes}
use Rattle.cube_demo.specs.Counting.{verdicts, history_behind, answered}

-- the changes add to 0 over each row
abbrev pub cancel_in : List ℤ → List Row → Bool
cancel_in ch rows = list_all (λ row. int_eq (total ch row.places) (pos 0)) rows

-- the changes add to 0 over each row of each of these, and to 1 over the cell: no answer tells the two cubes apart, the cell does
abbrev pub hides : Public → List (List Row) → List ℤ → Cell → Bool
hides g tables ch t = list_all (cancel_in ch) tables && int_eq (total ch (covered g t)) (pos 1)

-- how many of the first so many protected cells of a measure the changes behind a history hide from rows
abbrev pub hidden_among : Public → ℕ → List (List Row) → List Entry → ℕ → ℕ
hidden_among g most tables h m = count_by (λ t. hides g tables (changes g h m t) t) (take most (protected g m))

-- the rows of those requests on a measure that are answered
abbrev pub rows_on : Public → ℕ → List Request → List Verdict → List (List Row)
rows_on g m rs vs = map (rows g) (filter (asks m) (answered rs vs))

-- how many of the first 100 protected cells of a measure have a witness behind the requests
unfoldable pub witness_count : Public → List Request → ℕ → ℕ
witness_count g rs m = hidden_among g 100 (rows_on g m rs (verdicts g [] rs)) (history_behind g [] rs) m
