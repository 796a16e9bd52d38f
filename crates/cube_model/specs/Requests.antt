-- Requests, their rows and their plain sums.
use Rattle.std.specs.List.{list_all}
use Rattle.std.specs.Prelude.{length, nat_lt, not, ◌||◌, ℕ, Bool, true, false, ◌&&◌, ◌==◌, nat_le, min, List, [], ◌∷◌, map, filter, slice_index_or, ℤ, pos, ◌+ℤ◌, Option, Some, None}
use Rattle.cube_model.specs.declared.answer.AnswerRow.{AnswerRow}
use Rattle.cube_model.specs.declared.answer.Row.{Row}
use Rattle.cube_model.specs.declared.request.Pick.{Pick}
use Rattle.cube_model.specs.declared.request.Request.{Request}
use Rattle.cube_model.specs.declared.request.What.{What}
use Rattle.cube_model.specs.declared.request.What.TheVariants.{Count, Measure}
use Rattle.cube_model.specs.Cubes.{distinct, names_at, Dimension, Public, World, up, same, in_order, places, point, key_at}

-- the request of all places by their keys at some levels
abbrev pub whole : What → List ℕ → Request
whole what levels = record { what = what; group = levels; picks = map (λ l. None) levels }

-- the ancestor lies between the first and the last member of the pick
abbrev pub in_pick : Dimension → Option Pick → ℕ → Bool
in_pick d None x = true
in_pick d (Some p) x = nat_le p.first (up d p.level x) && nat_le (up d p.level x) p.last

abbrev pub in_picks : List Dimension → List (Option Pick) → List ℕ → Bool
in_picks (d ∷ ds) (p ∷ ps) (x ∷ xs) = in_pick d p x && in_picks ds ps xs
in_picks [] ps xs = true
in_picks (d ∷ ds) [] xs = true
in_picks (d ∷ ds) (p ∷ ps) [] = true

-- the request picks the place
unfoldable pub is_picked : Public → Request → ℕ → Bool
is_picked g r i = in_picks g.dimensions r.picks (point g i)

-- the place stands in the row with the key
abbrev pub in_row : Public → Request → List ℕ → ℕ → Bool
in_row g r key i = is_picked g r i && same (key_at g r.group i) key

-- the distinct groups of picked places in lexicographic order
abbrev pub row_keys : Public → Request → List (List ℕ)
row_keys g r = in_order (map (key_at g r.group) (filter (is_picked g r) (places g)))

abbrev pub row_at : Public → Request → List ℕ → Row
row_at g r key = record { key = key; places = filter (in_row g r key) (places g) }

-- each group with its places in order
abbrev pub rows : Public → Request → List Row
rows g r = map (row_at g r) (row_keys g r)

-- the plain sum of the integers at some places
abbrev pub total : List ℤ → List ℕ → ℤ
total values [] = pos 0
total values (i ∷ is) = slice_index_or values i (pos 0) +ℤ total values is

abbrev pub values : World → ℕ → List ℤ
values w m = slice_index_or w.cube m []

-- what is summed: the integers of the measure, or the numbers of facts
abbrev pub summed : World → What → List ℤ
summed w Count = map pos w.shown.shape.facts
summed w (Measure m) = values w m

-- for each row the plain sum
abbrev pub answer : World → Request → List AnswerRow
answer w r = map (λ row. record { key = row.key; sum = total (summed w r.what) row.places }) (rows w.shown r)

-- the lesser of the grouping level and the pick's level
abbrev pub lesser : ℕ → Option Pick → ℕ
lesser l None = l
lesser l (Some p) = min l p.level

abbrev pub lesser_levels : List ℕ → List (Option Pick) → List ℕ
lesser_levels [] ps = []
lesser_levels (l ∷ ls) [] = []
lesser_levels (l ∷ ls) (p ∷ ps) = lesser l p ∷ lesser_levels ls ps

unfoldable pub grain : Request → List ℕ
grain r = lesser_levels r.group r.picks

abbrev pub is_measure : ℕ → What → Bool
is_measure m Count = false
is_measure m (Measure k) = k == m

-- the request asks for the measure
abbrev pub asks : ℕ → Request → Bool
asks m r = is_measure m r.what

-- how many members a level has
abbrev pub members : Dimension → ℕ → ℕ
members d l = length (distinct (names_at d l))

-- a grouping level in range, and perhaps a pick of members of a named level
abbrev pub is_level : Dimension → Option Pick → ℕ → Bool
is_level d None l = nat_le l d.levels
is_level d (Some p) l = nat_le l d.levels && nat_lt p.level d.levels && nat_le p.first p.last && nat_lt p.last (members d p.level)

-- so for each dimension
abbrev pub fits : List Dimension → List ℕ → List (Option Pick) → Bool
fits [] [] [] = true
fits (d ∷ ds) (l ∷ ls) (p ∷ ps) = is_level d p l && fits ds ls ps
fits [] [] (p ∷ ps) = false
fits [] (l ∷ ls) ps = false
fits (d ∷ ds) [] ps = false
fits (d ∷ ds) (l ∷ ls) [] = false

-- some grouping level is a named one
abbrev pub is_grouped : List Dimension → List ℕ → Bool
is_grouped [] ls = false
is_grouped (d ∷ ds) [] = false
is_grouped (d ∷ ds) (l ∷ ls) = nat_lt l d.levels || is_grouped ds ls

-- the pick is of one member
abbrev pub is_one : Option Pick → Bool
is_one None = true
is_one (Some p) = p.first == p.last

-- there is such a measure
abbrev pub is_there : Public → What → Bool
is_there g Count = true
is_there g (Measure m) = nat_lt m (length g.policy.methods)

-- the request is valid
unfoldable pub is_valid : Public → Request → Bool
is_valid g r = fits g.dimensions r.group r.picks && is_there g r.what && (not (is_grouped g.dimensions r.group) || list_all is_one r.picks)
