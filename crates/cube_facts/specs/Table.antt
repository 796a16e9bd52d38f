-- How a flat file is kept: the fields of all rows, one after another, and the values.
use Rattle.std.specs.Prelude.{◌≡◌, ℕ, ◌*◌, ◌<◌, ◌≤◌, Bool, false, ◌&&◌, if◌then◌else◌, List, [], ◌∷◌, length, take, drop, slice_index_or, ℤ, pos, ◌+ℤ◌, ◌≤ℤ◌, neg_ℤ, All}
use Rattle.cube_facts.specs.Flat.{FlatRow}

-- at most 10^12 in absolute value
abbrev pub IsUnits : ℤ → Type 0
IsUnits value = (neg_ℤ (pos 1000000000000) ≤ℤ value) × (value ≤ℤ pos 1000000000000)

-- the rows: so many fields for each value
abbrev pub rows_in : ℕ → List (List ℕ) → List ℤ → List FlatRow
rows_in width fields [] = []
rows_in width fields (value ∷ values) = record { fields = take width fields; value = value } ∷ rows_in width (drop width fields) values

-- what a table keeps: just as many fields as its rows have, at most 1,000,000 rows, and no value too large
pub record IsTable (width : ℕ) (fields : List (List ℕ)) (values : List ℤ) : Type 0 where
  pub even : length fields ≡ length values * width
  pub few : length values ≤ 1000000
  pub bounded : All IsUnits values

-- the fields of a row
abbrev pub row_at : ℕ → List (List ℕ) → ℕ → List (List ℕ)
row_at width fields i = take width (drop (i * width) fields)

-- of some rows those that pass a test are kept
abbrev pub Keeps : (ℕ → Bool) → List Bool → List Bool → Type 0
Keeps test old new = (k : ℕ) → k < length old → slice_index_or new k false ≡ (slice_index_or old k false && test k)

-- the sum of the values that are kept
abbrev pub kept_sum : List Bool → List ℤ → ℤ
kept_sum [] values = pos 0
kept_sum (keep ∷ kept) [] = pos 0
kept_sum (keep ∷ kept) (value ∷ values) = (if keep then value else pos 0) +ℤ kept_sum kept values
