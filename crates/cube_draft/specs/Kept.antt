-- The columns of a fact file as they are kept.
use Rattle.std.specs.Prelude.{◌≡◌, ◌⊎◌, ℕ, ◌*◌, ◌<◌, ◌≤◌, Bool, true, false, List, [], ◌∷◌, ◌++◌, length, map, slice_index_or, is_ok, Some}
use Rattle.std.specs.List.{fold}
use Rattle.cube_model.specs.Dims.{NamedDimension, NamedMeasure, found}
use Rattle.cube_text.specs.Units.{units_of}
use Rattle.cube_facts.specs.Records.{records_of}
use Rattle.cube_draft.specs.Drafts.{field_of, level_name, written_decimals, IsAmong}

-- a file begins with a header
pub record Begins (bytes : List ℕ) (header : List (List ℕ)) : Type 0 where
  pub rows : List (List (List ℕ))
  pub records : records_of bytes ≡ header ∷ rows

-- a place is marked
abbrev pub IsMarked : List Bool → ℕ → Type 0
IsMarked members k = slice_index_or members k false ≡ true

-- one record more is kept in the columns with members
abbrev pub Grows : List Bool → List (List ℕ) → List (List (List ℕ)) → List (List (List ℕ)) → Type 0
Grows members fields old new = (k : ℕ) → k < length members → IsMarked members k → slice_index_or new k [] ≡ slice_index_or old k [] ++ field_of k fields ∷ []

-- The columns of a fact file: where a column has members, its fields in all records.
pub record Holds (bytes : List ℕ) (header : List (List ℕ)) (members : List Bool) (fields : List (List (List ℕ))) (many : ℕ) : Type 0 where
  pub rows : List (List (List ℕ))
  pub records : records_of bytes ≡ header ∷ rows
  pub counted : many ≡ length rows
  pub held : (k : ℕ) → k < length members → IsMarked members k → slice_index_or fields k [] ≡ map (field_of k) rows

-- a field is a number of so many decimals, and is written with no more
abbrev pub IsNumber : ℕ → List ℕ → Type 0
IsNumber decimals field = (is_ok (units_of decimals field) ≡ true) × (written_decimals field ≤ decimals)

-- the fields of a record are such numbers in the columns without members
abbrev pub AreNumbers : List Bool → List ℕ → List (List ℕ) → Type 0
AreNumbers members decimals fields = (k : ℕ) → k < length members → slice_index_or members k false ≡ false → IsNumber (slice_index_or decimals k 0) (field_of k fields)

-- What a sound scan has seen: not too many records, each as wide as the header, with numbers of so many decimals in the columns
-- without members.
pub record Seen (header : List (List ℕ)) (members : List Bool) (decimals : List ℕ) (rows : List (List (List ℕ))) : Type 0 where
  pub few : length rows ≤ 1000000
  pub wide : (i : ℕ) → i < length rows → length (slice_index_or rows i []) ≡ length header
  pub numbers : (i : ℕ) → i < length rows → AreNumbers members decimals (slice_index_or rows i [])

-- a file of which a scan has seen that
pub record Shown (bytes : List ℕ) (header : List (List ℕ)) (members : List Bool) (fields : List (List (List ℕ))) (many : ℕ) (decimals : List ℕ) : Type 0 where
  pub holds : Holds bytes header members fields many
  pub seen : Seen header members decimals holds.rows

-- a scan has gone over all records; where it was sound, it has seen that they are so
pub record Scanned (bytes : List ℕ) (members : List Bool) (fields : List (List (List ℕ))) (many : ℕ) (decimals : List ℕ) (sound : Bool) : Type 0 where
  pub header : List (List ℕ)
  pub holds : Holds bytes header members fields many
  pub shown : sound ≡ true → Shown bytes header members fields many decimals

-- the path of a row in some columns that are kept
abbrev pub kept_path : List (List (List ℕ)) → List ℕ → ℕ → List (List ℕ)
kept_path fields places row = map (λ place. slice_index_or (slice_index_or fields place []) row []) places

-- the names of the levels of some columns
abbrev pub level_names : List (List ℕ) → List ℕ → List (List ℕ)
level_names header places = map (λ place. level_name (slice_index_or header place [])) places

-- Some columns that are kept make a dimension.
pub record IsKept (header : List (List ℕ)) (members : List Bool) (fields : List (List (List ℕ))) (many : ℕ) (d : NamedDimension) : Type 0 where
  pub places : List ℕ
  pub levels : d.levels ≡ level_names header places
  pub column : d.column ≡ slice_index_or header (slice_index_or places 0 0) []
  pub marked : (k : ℕ) → k < length places → (slice_index_or places k 0 < length members) × IsMarked members (slice_index_or places k 0)
  pub paths : (row : ℕ) → row < many → IsAmong d.paths (kept_path fields places row)

-- a measure is of a column of numbers, of the decimals that they have there
pub record IsMeasured (header : List (List ℕ)) (members : List Bool) (decimals : List ℕ) (m : NamedMeasure) : Type 0 where
  pub place : ℕ
  pub stands : found m.column header ≡ Some place
  pub within : place < length members
  pub unmarked : slice_index_or members place false ≡ false
  pub same : slice_index_or decimals place 0 ≡ m.decimals

-- a row has the same fields in some columns as one of these
pub record IsAlike (fields : List (List (List ℕ))) (places firsts : List ℕ) (row : ℕ) : Type 0 where
  pub number : ℕ
  pub within : number < length firsts
  pub same : kept_path fields places (slice_index_or firsts number 0) ≡ kept_path fields places row

-- each row has those of one of at most 65,536 rows
pub record AreFew (fields : List (List (List ℕ))) (places : List ℕ) (many : ℕ) : Type 0 where
  pub firsts : List ℕ
  pub few : length firsts ≤ 65536
  pub each : (row : ℕ) → row < many → IsAlike fields places firsts row

-- how many points there are at most: a leaf of each dimension in each combination
abbrev pub leaf_points : List NamedDimension → ℕ
leaf_points ds = fold (λ n d. n * length d.paths) 1 ds

-- the points of the rows are no more than 65,536: there are not more rows, or not more combinations of leaves, or each row is alike
-- to one of few
abbrev pub HasFewPoints : List NamedDimension → List (List (List ℕ)) → List ℕ → ℕ → Type 0
HasFewPoints ds fields places many = (many ≤ 65536) ⊎ (leaf_points ds ≤ 65536) ⊎ AreFew fields places many

-- one row more has those of one of at most 65,536 rows, where these may have become more
pub record Counts (fields : List (List (List ℕ))) (places old new : List ℕ) (row : ℕ) : Type 0 where
  pub more : List ℕ
  pub grown : new ≡ old ++ more
  pub few : length new ≤ 65536
  pub alike : IsAlike fields places new row
