-- The canonical text of a request.
use Rattle.std.specs.Prelude.{⊤, ◌<◌, ◌≤◌, ℕ, Bool, true, false, not, ◌&&◌, ◌||◌, nat_lt, List, [], ◌∷◌, ◌++◌, length, slice_index_or, codes, if◌then◌else◌, Option, Some, None}
use Rattle.std.specs.List.{list_all}
use Rattle.cube_model.specs.Dims.{Dims, NamedDimension, plains, members, measure_at}
use Rattle.cube_model.specs.Requests.{fits, is_grouped, is_one}
use Rattle.cube_model.specs.declared.request.Request.{Request}
use Rattle.cube_model.specs.declared.request.What.{What}
use Rattle.cube_model.specs.declared.request.What.TheVariants.{Count, Measure}
use Rattle.cube_model.specs.declared.request.Pick.{Pick}
use Rattle.cube_text.specs.Quoting.{printed}

-- the count, or a measure that there is
abbrev pub is_there : Dims → What → Bool
is_there s Count = true
is_there s (Measure m) = nat_lt m (length s.measures)

-- the request is valid: levels and picks in range, and where it groups each pick is of one member
unfoldable pub is_request : Dims → Request → Bool
is_request s r = fits (plains s) r.group r.picks && is_there s r.what && (not (is_grouped (plains s) r.group) || list_all is_one r.picks)

-- the members of a pick are there, and in order
abbrev pub PickFits : NamedDimension → Option Pick → Type 0
PickFits d None = ⊤
PickFits d (Some p) = (p.level < length d.levels) × (p.first ≤ p.last) × (p.last < length (members d p.level))

abbrev pub PicksFit : List NamedDimension → List (Option Pick) → Type 0
PicksFit [] [] = ⊤
PicksFit [] (p ∷ ps) = ⊥
PicksFit (d ∷ ds) [] = ⊥
PicksFit (d ∷ ds) (p ∷ ps) = PickFits d p × PicksFit ds ps

abbrev pub what_text : Dims → What → List ℕ
what_text s Count = codes "count"
what_text s (Measure m) = printed (measure_at s m).name

abbrev pub level_text : NamedDimension → ℕ → List ℕ
level_text d l = printed d.name ++ 46 ∷ printed (slice_index_or d.levels l [])

abbrev pub member_text : NamedDimension → ℕ → ℕ → List ℕ
member_text d l x = printed (slice_index_or (members d l) x [])

-- a pick, as a span or with its first member alone
abbrev pub pick_text : Bool → NamedDimension → Pick → List ℕ
pick_text is_span d p = level_text d p.level ++ 61 ∷ member_text d p.level p.first ++ (if is_span then codes ".." ++ member_text d p.level p.last else [])

-- items behind a word, with a comma and a blank between
abbrev pub behind : List ℕ → List (List ℕ) → List ℕ
behind w [] = []
behind w (x ∷ xs) = w ++ x ++ behind (codes ", ") xs

-- the grouping levels that are not `all`, in the order of the dimensions
abbrev pub by_texts : List NamedDimension → List ℕ → List (List ℕ)
by_texts [] ls = []
by_texts (d ∷ ds) [] = []
by_texts (d ∷ ds) (l ∷ ls) = (if nat_lt l (length d.levels) then level_text d l ∷ [] else []) ++ by_texts ds ls

abbrev pub pick_here : Bool → NamedDimension → Option Pick → List (List ℕ)
pick_here is_span d None = []
pick_here is_span d (Some p) = pick_text is_span d p ∷ []

-- the picks in the order of the dimensions
abbrev pub pick_texts : Bool → List NamedDimension → List (Option Pick) → List (List ℕ)
pick_texts is_span [] ps = []
pick_texts is_span (d ∷ ds) [] = []
pick_texts is_span (d ∷ ds) (p ∷ ps) = pick_here is_span d p ++ pick_texts is_span ds ps

-- a request that groups is a slice, another with picks of one member each a cell, and all others are ranges
unfoldable pub request_text : Dims → Request → List ℕ
request_text s r =
    if is_grouped (plains s) r.group then codes "slice " ++ what_text s r.what ++ behind (codes " by ") (by_texts s.dimensions r.group) ++ behind (codes " where ") (pick_texts false s.dimensions r.picks)
    else if list_all is_one r.picks then codes "cell " ++ what_text s r.what ++ behind (codes " ") (pick_texts false s.dimensions r.picks)
    else codes "range " ++ what_text s r.what ++ behind (codes " ") (pick_texts true s.dimensions r.picks)
