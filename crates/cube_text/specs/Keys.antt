-- The levels and the members of a key as fields of CSV, in the order of the dimensions.
use Rattle.std.specs.Prelude.{◌<◌, ℕ, nat_lt, List, [], ◌∷◌, ◌++◌, length, slice_index_or, if◌then◌else◌}
use Rattle.cube_model.specs.Dims.{Dims, NamedDimension, members, dimension_at}
use Rattle.cube_text.specs.Quoting.{field}

-- a dimension and one of its levels
abbrev pub level_head : NamedDimension → ℕ → List ℕ
level_head d l = d.name ++ 46 ∷ slice_index_or d.levels l []

-- the levels that are not `all`, in the order of the dimensions
abbrev pub heads : List NamedDimension → List ℕ → List (List ℕ)
heads [] ls = []
heads (d ∷ ds) [] = []
heads (d ∷ ds) (l ∷ ls) = (if nat_lt l (length d.levels) then level_head d l ∷ [] else []) ++ heads ds ls

-- the names of a key's members at these levels
abbrev pub key_names : List NamedDimension → List ℕ → List ℕ → List (List ℕ)
key_names [] ls xs = []
key_names (d ∷ ds) [] xs = []
key_names (d ∷ ds) (l ∷ ls) [] = []
key_names (d ∷ ds) (l ∷ ls) (x ∷ xs) = (if nat_lt l (length d.levels) then slice_index_or (members d l) x [] ∷ [] else []) ++ key_names ds ls xs

-- a text as a field of CSV, with a comma behind it
abbrev pub closed : List ℕ → List ℕ
closed x = field x ++ 44 ∷ []

-- each member of a key is there, at the levels that are not `all`
abbrev pub KeyFits : Dims → List ℕ → List ℕ → Type 0
KeyFits s ls xs = (k : ℕ) → k < length s.dimensions → slice_index_or ls k 0 < length (dimension_at s k).levels → slice_index_or xs k 0 < length (members (dimension_at s k) (slice_index_or ls k 0))
