-- What holds of a draft: it is read, the fact file is accepted under it, and its paths are those of the records.
use Rattle.std.specs.Prelude.{◌≡◌, ◌==◌, ℕ, ◌-◌, ◌<◌, ◌≤◌, min, Bool, true, false, not, ◌||◌, ◌&&◌, List, [], ◌∷◌, length, map, take, slice_index_or, codes, if◌then◌else◌, unwrap_or, Ok, ℤ}
use Rattle.std.specs.List.{after_first, list_all, list_any}
use Rattle.std.specs.Str.{bytes_eq}
use Rattle.csv.specs.Records.{field_at}
use Rattle.cube_model.specs.declared.policy.Method.{Method}
use Rattle.cube_model.specs.declared.policy.Method.TheVariants.{Plain, Lattice, Parity}
use Rattle.cube_model.specs.declared.policy.Policy.{Policy}
use Rattle.cube_model.specs.declared.shape.Shape.{Shape}
use Rattle.cube_model.specs.Dims.{NamedDimension, Dims, dimension_at, measure_at}
use Rattle.cube_dims.specs.DimsFile.{dims_of}
use Rattle.cube_facts.specs.FactFile.{field_in, filled_of}
use Rattle.cube_facts.specs.Records.{records_of}
use Rattle.cube_policy.specs.PolicyFile.{policy_of}
use Rattle.cube_draft.specs.declared.choices.Choices.{Choices}
use Rattle.cube_draft.specs.declared.choices.Stated.{Stated}

-- the field of a record in the column of a place
abbrev pub field_of : ℕ → List (List ℕ) → List ℕ
field_of place fields = unwrap_or (field_at fields place) []

-- the name of a level of a column: no level may be named `all`
abbrev pub level_name : List ℕ → List ℕ
level_name column = if bytes_eq column (codes "all") then codes "all_" else column

-- the path of a record in some columns
abbrev pub path_of : List ℕ → List (List ℕ) → List (List ℕ)
path_of places fields = map (λ place. field_of place fields) places

-- A path is one of those of a dimension.
pub record IsAmong (paths : List (List (List ℕ))) (path : List (List ℕ)) : Type 0 where
  pub leaf : ℕ
  pub within : leaf < length paths
  pub is : slice_index_or paths leaf [] ≡ path

-- The columns in some places of a header make a dimension: its levels are named as they are, its leaves stand in the first of
-- them, and each record has one of its paths in them.
pub record IsMade (header : List (List ℕ)) (rows : List (List (List ℕ))) (d : NamedDimension) : Type 0 where
  pub places : List ℕ
  pub levels : d.levels ≡ map (λ place. level_name (slice_index_or header place [])) places
  pub column : d.column ≡ slice_index_or header (slice_index_or places 0 0) []
  pub paths : (k : ℕ) → k < length rows → IsAmong d.paths (path_of places (slice_index_or rows k []))

-- a column is a level of one of these dimensions
abbrev pub has_level : List NamedDimension → List ℕ → Bool
has_level ds name = list_any (λ d. list_any (bytes_eq (level_name name)) d.levels) ds

-- a column is a level of a dimension, or that of a measure
abbrev pub is_used : Dims → List ℕ → Bool
is_used s name = has_level s.dimensions name || list_any (λ m. bytes_eq name m.column) s.measures

-- a column is used, or it is one of those that are to be left out
abbrev pub is_covered : List (List ℕ) → Dims → List ℕ → Bool
is_covered skipped s name = is_used s name || list_any (bytes_eq name) skipped

-- No column of a fact file is left out but those of which it was stated.
pub record IsCovered (skipped : List (List ℕ)) (bytes : List ℕ) (s : Dims) : Type 0 where
  pub header : List (List ℕ)
  pub rows : List (List (List ℕ))
  pub records : records_of bytes ≡ header ∷ rows
  pub used : list_all (is_covered skipped s) header ≡ true

-- The dimensions are true of a fact file: each is made of some of its columns.
pub record AreTrue (bytes : List ℕ) (s : Dims) : Type 0 where
  pub header : List (List ℕ)
  pub rows : List (List (List ℕ))
  pub records : records_of bytes ≡ header ∷ rows
  pub each : (i : ℕ) → i < length s.dimensions → IsMade header rows (dimension_at s i)

-- levels are some columns, in turn
abbrev pub are_columns : List (List ℕ) → List (List ℕ) → Bool
are_columns [] [] = true
are_columns [] (column ∷ columns) = false
are_columns (level ∷ levels) [] = false
are_columns (level ∷ levels) (column ∷ columns) = bytes_eq level (level_name column) && are_columns levels columns

-- a dimension is a stated one: it has the name, and its levels are the columns, the finest first
abbrev pub is_stated : Stated → NamedDimension → Bool
is_stated x d = bytes_eq d.name x.name && are_columns d.levels x.columns

-- the stated dimensions stand first, in their order
abbrev pub stand_first : List Stated → List NamedDimension → Bool
stand_first [] ds = true
stand_first (x ∷ xs) [] = false
stand_first (x ∷ xs) (d ∷ ds) = is_stated x d && stand_first xs ds

-- a column is neither a level nor that of a measure
abbrev pub is_left_out : Dims → List ℕ → Bool
is_left_out s name = not (is_used s name)

-- What was stated is kept: the dimensions that were stated stand first, each column of which it was stated that it has members is a level,
-- and each that was to be left out is.
abbrev pub keeps : Choices → Dims → Bool
keeps choices s = stand_first choices.dimensions s.dimensions && list_all (has_level s.dimensions) choices.members && list_all (is_left_out s) choices.skipped

abbrev pub is_point : ℕ → Bool
is_point byte = byte == 46

-- how many decimals a field is written with: the digits behind the point, at most 6
abbrev pub written_decimals : List ℕ → ℕ
written_decimals field = min (length (after_first is_point field)) 6

-- Each measure has at least the decimals that the fields of its column are written with.
pub record AreFine (bytes : List ℕ) (s : Dims) : Type 0 where
  pub header : List (List ℕ)
  pub rows : List (List (List ℕ))
  pub records : records_of bytes ≡ header ∷ rows
  pub each : (m k : ℕ) → m < length s.measures → k < length rows → written_decimals (field_in header (slice_index_or rows k []) (measure_at s m).column) ≤ (measure_at s m).decimals

-- a byte that may stand behind the name of a level above: a hyphen, a blank, a point or a slash
abbrev pub is_gap : ℕ → Bool
is_gap byte = (byte == 45) || (byte == 32) || (byte == 46) || (byte == 47)

-- a name begins with another one, and a gap stands behind that, as `2026-01` with `2026`
abbrev pub is_under : List ℕ → List ℕ → Bool
is_under name field = is_gap (slice_index_or field (length name) 0) && bytes_eq name (take (length name) field)

-- the name of a path at a level
abbrev pub name_in : ℕ → List (List ℕ) → List ℕ
name_in level path = slice_index_or path level []

-- a level has two members or more
abbrev pub is_varied : List (List (List ℕ)) → ℕ → Bool
is_varied paths level = list_any (λ p. not (bytes_eq (name_in level (slice_index_or paths 0 [])) (name_in level p))) paths

-- the names of the level below begin with those of a level
abbrev pub is_plainly_above : List (List (List ℕ)) → ℕ → Bool
is_plainly_above paths level = list_all (λ p. is_under (name_in level p) (name_in (level - 1) p)) paths

-- each level above the finest has two members or more, or it is plainly above
abbrev pub StandsApart : NamedDimension → Type 0
StandsApart d = (level : ℕ) → 0 < level → level < length d.levels → (is_varied d.paths level || is_plainly_above d.paths level) ≡ true

-- No dimension that was not stated has a level above that is constant, but one that is plainly above.
abbrev pub AreApart : Choices → Dims → Type 0
AreApart choices s = (i : ℕ) → length choices.dimensions ≤ i → i < length s.dimensions → StandsApart (dimension_at s i)

-- a fact file is accepted under dimensions and measures
pub record IsFilled (s : Dims) (bytes : List ℕ) : Type 0 where
  pub filled : Shape × List (List ℤ)
  pub accepted : filled_of s bytes ≡ Ok filled

-- a method controls its measure
abbrev pub is_controlled : Method → Bool
is_controlled Plain = false
is_controlled Lattice = true
is_controlled Parity = true

-- a measure is under a control, and an object protects it
abbrev pub is_governed : Policy → ℕ → Bool
is_governed rules m = is_controlled (slice_index_or rules.methods m Plain) && list_any (λ o. o.measure == m) rules.objects

-- A policy file is accepted for them, and it leaves no measure open.
pub record IsGoverned (s : Dims) (bytes : List ℕ) : Type 0 where
  pub rules : Policy
  pub accepted : policy_of s bytes ≡ Ok rules
  pub each : (m : ℕ) → m < length s.measures → is_governed rules m ≡ true

-- A draft is read as dimensions and measures under which the fact file is accepted, and as a policy for them; the dimensions are true of
-- the fact file, of which no column is left out but those that were to be, they keep what was stated, and none that was not has a
-- constant level above that is not plainly one; the measures have the decimals that are written.
pub record IsDraft (bytes : List ℕ) (choices : Choices) (dims policy : List ℕ) : Type 0 where
  pub said : Dims
  pub read : dims_of dims ≡ Ok said
  pub filled : IsFilled said bytes
  pub governed : IsGoverned said policy
  pub true_of : AreTrue bytes said
  pub covered : IsCovered choices.skipped bytes said
  pub apart : AreApart choices said
  pub fine : AreFine bytes said
  pub kept : keeps choices said ≡ true
