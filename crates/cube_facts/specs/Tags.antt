-- Short names as numbers, by which they are compared at once.
use Rattle.std.specs.Prelude.{◌≡◌, ℕ, ◌+◌, ◌*◌, ◌<◌, nat_le, if◌then◌else◌, List, [], ◌∷◌, length, slice_index_or, Some}
use Rattle.cube_model.specs.Dims.{Dims, NamedDimension}
use Rattle.cube_facts.specs.FactFile.{leaf_of}

-- the number of some bytes: each is a digit from 1 to 256
abbrev pub number_of : List ℕ → ℕ
number_of [] = 0
number_of (b ∷ bs) = b + 1 + 256 * number_of bs

-- the number of a short name, and 0 for a longer one
abbrev pub tag_of : List ℕ → ℕ
tag_of name = if nat_le (length name) 7 then number_of name else 0

abbrev pub AreBytes : List ℕ → Type 0
AreBytes name = (i : ℕ) → slice_index_or name i 0 < 256

-- a name with the tag in a place is that of the leaf with the place's number; 0 says nothing
abbrev pub HasTags : NamedDimension → List ℕ → Type 0
HasTags d tags = (k : ℕ) (name : List ℕ) → k < length tags → AreBytes name → 0 < tag_of name → slice_index_or tags k 0 ≡ tag_of name → leaf_of d name ≡ Some k

-- the tags of all dimensions
pub record HaveTags (s : Dims) (tags : List (List ℕ)) : Type 0 where
  pub long : length tags ≡ length s.dimensions
  pub each : (i : ℕ) (d : NamedDimension) → i < length s.dimensions → HasTags (slice_index_or s.dimensions i d) (slice_index_or tags i [])
