-- What stands before any request: dimensions and their levels, points, cells, cuboids.
use Rattle.std.specs.List.{list_all}
use Rattle.std.specs.Prelude.{◌+◌, ◌*◌, ◌≡◌, ℕ, zero, suc, ◌<◌, Bool, true, false, not, ◌&&◌, ◌||◌, ◌==◌, nat_lt, nat_le, min, List, [], ◌∷◌, length, map, filter, flat_map, slice_index_or, if◌then◌else◌, ℤ, ⊤, ◌⊎◌}
use Rattle.cube_model.specs.declared.cell.Cell.{Cell}
use Rattle.cube_model.specs.declared.policy.Policy.{Policy}
use Rattle.cube_model.specs.declared.shape.Shape.{Shape}

-- two texts or two keys are equal
abbrev pub same : List ℕ → List ℕ → Bool
same [] [] = true
same [] (y ∷ ys) = false
same (x ∷ xs) [] = false
same (x ∷ xs) (y ∷ ys) = x == y && same xs ys

-- one comes strictly before the other in lexicographic order
abbrev pub before : List ℕ → List ℕ → Bool
before [] [] = false
before [] (y ∷ ys) = true
before (x ∷ xs) [] = false
before (x ∷ xs) (y ∷ ys) = nat_lt x y || (x == y && before xs ys)

-- a key in its place among keys in order, once
abbrev pub with_key : List ℕ → List (List ℕ) → List (List ℕ)
with_key key [] = key ∷ []
with_key key (k ∷ ks) = if same key k then k ∷ ks else if before key k then key ∷ k ∷ ks else k ∷ with_key key ks

-- the keys in lexicographic order, each once
abbrev pub in_order : List (List ℕ) → List (List ℕ)
in_order [] = []
in_order (k ∷ ks) = with_key k (in_order ks)

-- the numbers from start on, so many of them
abbrev pub count_from : ℕ → ℕ → List ℕ
count_from start zero = []
count_from start (suc n) = start ∷ count_from (suc start) n

-- A dimension: how many named levels it has, and a path per leaf, which names one member per level from the leaf upwards.
-- The level behind the named ones is `all`.
pub record Dimension : Type 0 where
  pub levels : ℕ
  pub paths : List (List (List ℕ))

-- the names that the paths have at a level
abbrev pub names_at : Dimension → ℕ → List (List ℕ)
names_at d l = map (λ path. slice_index_or path l []) d.paths

-- each name once, where it first stands
abbrev pub distinct : List (List ℕ) → List (List ℕ)
distinct [] = []
distinct (x ∷ xs) = x ∷ filter (λ y. not (same x y)) (distinct xs)

-- where a name first stands
abbrev pub place_of : List ℕ → List (List ℕ) → ℕ
place_of x [] = zero
place_of x (y ∷ ys) = if same x y then zero else suc (place_of x ys)

-- the number at a named level of a leaf: a leaf has its own, a member of an upper level is numbered by its first appearance
abbrev pub number_at : Dimension → ℕ → ℕ → ℕ
number_at d zero x = x
number_at d (suc l) x = place_of (slice_index_or (names_at d (suc l)) x []) (distinct (names_at d (suc l)))

-- the number at a level of a leaf: `all` has one member, 0
unfoldable pub up : Dimension → ℕ → ℕ → ℕ
up d l x = if nat_lt l d.levels then number_at d l x else 0

-- What everybody knows: the dimensions, the policy, the points in order with the number of facts at each.
pub record Public : Type 0 where
  pub dimensions : List Dimension
  pub policy : Policy
  pub shape : Shape

-- A world: what is public, and per measure an integer at each point.
pub record World : Type 0 where
  pub shown : Public
  pub cube : List (List ℤ)

-- a place is the number of a point
abbrev pub places : Public → List ℕ
places g = count_from 0 (length g.shape.points)

abbrev pub point : Public → ℕ → List ℕ
point g i = slice_index_or g.shape.points i []

-- the ancestors of a point at the levels of a cuboid
abbrev pub ancestors : List Dimension → List ℕ → List ℕ → List ℕ
ancestors (d ∷ ds) (l ∷ ls) (x ∷ xs) = up d l x ∷ ancestors ds ls xs
ancestors [] ls xs = []
ancestors (d ∷ ds) [] xs = []
ancestors (d ∷ ds) (l ∷ ls) [] = []

-- the key of a place at a cuboid
unfoldable pub key_at : Public → List ℕ → ℕ → List ℕ
key_at g c i = ancestors g.dimensions c (point g i)

-- the cuboid has the two places together
abbrev pub together : Public → List ℕ → ℕ → ℕ → Bool
together g c i j = same (key_at g c i) (key_at g c j)

-- a cuboid is finer than or equal to another
abbrev pub is_finer : List ℕ → List ℕ → Bool
is_finer [] [] = true
is_finer [] (b ∷ bs) = false
is_finer (a ∷ xs) [] = false
is_finer (a ∷ xs) (b ∷ bs) = nat_le a b && is_finer xs bs

-- the lesser level in each dimension
abbrev pub meet : List ℕ → List ℕ → List ℕ
meet [] bs = []
meet (a ∷ xs) [] = []
meet (a ∷ xs) (b ∷ bs) = min a b ∷ meet xs bs

-- the cuboids finer than or equal to this one, in the order of their numbers
abbrev pub cuboids_below : List ℕ → List (List ℕ)
cuboids_below [] = [] ∷ []
cuboids_below (l ∷ ls) = flat_map (λ a. map (λ rest. a ∷ rest) (cuboids_below ls)) (count_from 0 (suc l))

-- the cuboids, by number
abbrev pub cuboids : Public → List (List ℕ)
cuboids g = cuboids_below (map (λ d. d.levels) g.dimensions)

-- how many there are: each dimension has its named levels and `all`
abbrev pub cuboid_count : List Dimension → ℕ
cuboid_count [] = 1
cuboid_count (d ∷ ds) = suc d.levels * cuboid_count ds

-- The number of a cuboid: its levels read as digits, the first dimension most significant, where the digit of a dimension
-- has as many values as the dimension has levels with `all`.
abbrev pub cuboid_number : List Dimension → List ℕ → ℕ
cuboid_number [] ls = 0
cuboid_number (d ∷ ds) [] = 0
cuboid_number (d ∷ ds) (l ∷ ls) = l * cuboid_count ds + cuboid_number ds ls

-- a level for each dimension, in range
abbrev pub are_levels : List Dimension → List ℕ → Bool
are_levels [] [] = true
are_levels [] (l ∷ ls) = false
are_levels (d ∷ ds) [] = false
are_levels (d ∷ ds) (l ∷ ls) = nat_le l d.levels && are_levels ds ls

-- the core cuboid
abbrev pub core : Public → List ℕ
core g = map (λ d. 0) g.dimensions

-- the cell covers the place
abbrev pub covers : Public → Cell → ℕ → Bool
covers g t i = same (key_at g t.levels i) t.key

-- the places that a cell covers
abbrev pub covered : Public → Cell → List ℕ
covered g t = filter (covers g t) (places g)

-- a point has a leaf in each dimension
abbrev pub IsPoint : List Dimension → List ℕ → Type 0
IsPoint [] [] = ⊤
IsPoint [] (x ∷ xs) = ⊥
IsPoint (d ∷ ds) [] = ⊥
IsPoint (d ∷ ds) (x ∷ xs) = (x < length d.paths) × IsPoint ds xs

-- each point comes before all later ones
abbrev pub IsIncreasing : List (List ℕ) → Type 0
IsIncreasing [] = ⊤
IsIncreasing (x ∷ xs) = (list_all (before x) xs ≡ true) × IsIncreasing xs

-- each member has one parent
abbrev pub IsHierarchy : Dimension → Type 0
IsHierarchy d = (l x y : ℕ) → suc l < d.levels → x < length d.paths → y < length d.paths → up d l x ≡ up d l y → up d (suc l) x ≡ up d (suc l) y

-- the element is in the list
abbrev pub IsIn : {X : Type 0} → X → List X → Type 0
IsIn x [] = ⊥
IsIn x (y ∷ ys) = (y ≡ x) ⊎ IsIn x ys

-- each element has the property
abbrev pub Each : {X : Type 0} → (X → Type 0) → List X → Type 0
Each P [] = ⊤
Each P (x ∷ xs) = P x × Each P xs

-- What the files are checked for. Each dimension has a named level, each path has a name per named level, leaves have
-- distinct names and each member one parent; points are leaf vectors in increasing order with a fact each; a cube has a
-- list per measure with an integer per point.
pub record IsWorld (w : World) : Type 0 where
  pub named : Each (λ d. 0 < d.levels) w.shown.dimensions
  pub even : Each (λ d. Each (λ path. length path ≡ d.levels) d.paths) w.shown.dimensions
  pub leaves : Each (λ d. distinct (names_at d 0) ≡ names_at d 0) w.shown.dimensions
  pub hierarchies : Each IsHierarchy w.shown.dimensions
  pub points : Each (IsPoint w.shown.dimensions) w.shown.shape.points
  pub increasing : IsIncreasing w.shown.shape.points
  pub facts : length w.shown.shape.facts ≡ length w.shown.shape.points
  pub counted : Each (λ n. 0 < n) w.shown.shape.facts
  pub methods : length w.shown.policy.methods ≡ length w.cube
  pub values : Each (λ values. length values ≡ length w.shown.shape.points) w.cube
