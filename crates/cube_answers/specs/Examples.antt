-- Answers over the pay cube, and cells of it.
use Rattle.std.specs.Prelude.{ℕ, [], ◌∷◌, codes, None, ℤ}
use Rattle.cube_model.specs.declared.answer.AnswerRow.{AnswerRow}
use Rattle.cube_model.specs.declared.cell.Cell.{Cell}
use Rattle.cube_model.specs.declared.request.Request.{Request}
use Rattle.cube_model.specs.declared.request.What.{What}
use Rattle.cube_model.specs.Dims.{Dims, NamedDimension}

-- what is asked, grouped by these levels of the two dimensions
abbrev pub grouped : What → ℕ → ℕ → Request
grouped what region time = record { what = what; group = region ∷ time ∷ []; picks = None ∷ None ∷ [] }

-- a sum in the row of these members
abbrev pub row : ℕ → ℕ → ℤ → AnswerRow
row a b sum = record { key = a ∷ b ∷ []; sum = sum }

-- a cell of these levels and members
abbrev pub cell : ℕ → ℕ → ℕ → ℕ → Cell
cell l k a b = record { levels = l ∷ k ∷ []; key = a ∷ b ∷ [] }

-- a city whose name has a comma and quotes, and pay with 2 decimals
abbrev pub odd_region : NamedDimension
odd_region = record {
  name = codes "region";
  column = codes "city";
  levels = codes "city, town" ∷ [];
  paths = (codes "L'Isle, \"Sud\"" ∷ []) ∷ (codes "Nice" ∷ []) ∷ [];
}

abbrev pub odd_dims : Dims
odd_dims = record {
  dimensions = odd_region ∷ [];
  measures = record { name = codes "pay"; column = codes "pay"; decimals = 2 } ∷ [];
}

abbrev pub odd_request : What → Request
odd_request what = record { what = what; group = 0 ∷ []; picks = None ∷ [] }

abbrev pub odd_row : ℕ → ℤ → AnswerRow
odd_row a sum = record { key = a ∷ []; sum = sum }
