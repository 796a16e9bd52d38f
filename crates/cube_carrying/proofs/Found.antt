-- What is found by its name.
use Rattle.std.proofs.Common.{◌≡◌, ℕ, ◌<◌, ◌≤◌, ◌&&◌, Bool, true, false, List, [], ◌∷◌, length, map, get_or, position, Some, None, refl, sym, ap, ◌∙◌, arith}
use Rattle.std.specs.List.{list_any}
use Rattle.std.specs.Str.{bytes_eq}
use Rattle.std.proofs.lemmas.Bool.{false≢true}
use Rattle.std.proofs.lemmas.List.{length-map}
use Rattle.std.proofs.lemmas.List.Quantifiers.{position-Some}
use Rattle.cube_model.specs.Cubes.{same, distinct, place_of, names_at}
use Rattle.cube_model.specs.Dims.{Dims, NamedDimension, IsDimension, plain, found, no_dimension, dimension_names}
use Rattle.cube_model.proofs.DimsFacts.{same-bytes_eq, place_of-position, place_of-absent, place_of-below, length-names_at}
use Rattle.cube_model.proofs.Found.{found_in, found-none}
use Rattle.cube_model.proofs.Members.{tested, same_refl}
use Rattle.cube_model.proofs.Parts.{position-map, position-is, list_any-map}
use Rattle.cube_model.proofs.Walks.{any_from, any_has, any_alike}
use Rattle.cube_carry.specs.Continues.{same_texts, has_dimension, has_levels}
use Rattle.cube_carry.specs.Names.{dimension_in}
use Rattle.cube_carry.proofs.Dimensions.{texts_eq, stands, in_at, beyond, name_at_is}
use Rattle.cube_carry.proofs.Orders.{is_among}

-- ---- a name that is found

pub found_place : (x : List ℕ) (xs : List (List ℕ)) (n : ℕ) → Some n ≡ found x xs → n ≡ place_of x xs
found_place x xs n h = position-is (bytes_eq x) xs n (sym h) ∙ sym (place_of-position x xs)

pub found_no_place : (x : List ℕ) (xs : List (List ℕ)) → None ≡ found x xs → length xs ≡ place_of x xs
found_no_place x xs h = sym (place_of-absent x xs (found-none x xs (sym h)))

pub place_within : (x : List ℕ) (xs : List (List ℕ)) → place_of x xs ≤ length xs
place_within x xs = tested (list_any (bytes_eq x) xs) (λ t. let b = place_of-below x xs t in omega (arith, b)) (λ f. let e = place_of-absent x xs f in omega (arith, e))

-- ---- a name among the names of things

pub some_place : {X : Type 0} (part : X → List ℕ) (x : List ℕ) (xs : List X) (n : ℕ) → Some n ≡ position (λ y. bytes_eq x (part y)) xs → n ≡ place_of x (map part xs)
some_place part x xs n h = found_place x (map part xs) n (h ∙ sym (position-map part (bytes_eq x) xs))

pub no_place : {X : Type 0} (part : X → List ℕ) (x : List ℕ) (xs : List X) → None ≡ position (λ y. bytes_eq x (part y)) xs → length xs ≡ place_of x (map part xs)
no_place part x xs h = sym (length-map xs part) ∙ found_no_place x (map part xs) (h ∙ sym (position-map part (bytes_eq x) xs))

-- ---- a dimension

pub any_named : (x : List ℕ) (ds : List NamedDimension) → list_any (λ d. bytes_eq x d.name) ds ≡ list_any (same x) (map (λ d. d.name) ds)
any_named x ds = sym (list_any-map (λ d. d.name) (bytes_eq x) ds) ∙ sym (any_alike (same x) (bytes_eq x) (map (λ d. d.name) ds) (λ y k. same-bytes_eq x y))

pub dimension_below : (s : Dims) (d : NamedDimension) → has_dimension s d ≡ true → dimension_in s d < length s.dimensions
dimension_below s d h = let a = place_of-below d.name (dimension_names s) (is_among d.name (dimension_names s) h) in let e = length-map s.dimensions (λ e. e.name) in omega (arith, a, e)

no_texts : (xs : List (List ℕ)) → 1 ≤ length xs → same_texts xs [] ≡ false
no_texts [] h = absurd (omega (arith, h))
no_texts (x ∷ xs) h = refl

pub no_levels : (s : Dims) (d : NamedDimension) (n : ℕ) → n ≡ dimension_in s d → length s.dimensions ≤ n → 1 ≤ length d.levels → has_levels s d ≡ false
no_levels s d n e h k = ap (λ (f : NamedDimension). same_texts d.levels f.levels) (beyond s.dimensions (dimension_in s d) no_dimension (omega (arith, e, h))) ∙ no_texts d.levels k

-- ---- a path

some_eq : (n m : ℕ) → Some n ≡ Some m → n ≡ m
some_eq n m h = cc

-- the leaf of a path that the dimension has is found at its place
path_at : (d : NamedDimension) (path : List (List ℕ)) → IsDimension d → list_any (same_texts path) d.paths ≡ true
    → (i : ℕ) × (found (get_or path 0 []) (distinct (names_at (plain d) 0)) ≡ Some i) × (get_or d.paths i [] ≡ path)
path_at d path ok t =
    let r = any_from (same_texts path) d.paths t in
    let is = texts_eq path r.0 r.2 in
    let y = stands r.0 [] d.paths r.1 in
    let below : y.0 < length d.paths = y.1 in
    let long : y.0 < length (names_at (plain d) 0) = let l = length-names_at d 0 in omega (arith, l, below) in
    let own : get_or d.paths y.0 [] ≡ path = y.2 ∙ sym is in
    let name : get_or (names_at (plain d) 0) y.0 [] ≡ get_or path 0 [] = name_at_is d 0 y.0 below ∙ ap (λ (p : List (List ℕ)). get_or p 0 []) own in
    (y.0, ap (found (get_or path 0 [])) ok.distinct_leaves ∙ found_in (names_at (plain d) 0) y.0 (get_or path 0 []) ok.distinct_leaves long name, own)

pub leaf_below : (d : NamedDimension) (x : List ℕ) (n : ℕ) → IsDimension d → Some n ≡ found x (distinct (names_at (plain d) 0)) → n < length d.paths
leaf_below d x n ok h =
    let below = (position-Some (bytes_eq x) (names_at (plain d) 0) n [] (sym (h ∙ ap (found x) ok.distinct_leaves))).0 in
    let l = length-names_at d 0 in
    omega (arith, below, l)

same_own : (xs : List (List ℕ)) → same_texts xs xs ≡ true
same_own [] = refl
same_own (x ∷ xs) = ap (λ (b : Bool). b && same_texts xs xs) (same_refl x) ∙ same_own xs

pub path_found : (d : NamedDimension) (path : List (List ℕ)) (n : ℕ) → IsDimension d → Some n ≡ found (get_or path 0 []) (distinct (names_at (plain d) 0))
    → same_texts path (get_or d.paths n []) ≡ list_any (same_texts path) d.paths
path_found d path n ok h = tested (list_any (same_texts path) d.paths)
    (λ t. let r = path_at d path ok t in
    let at : n ≡ r.0 = some_eq n r.0 (h ∙ r.1) in
    ap (same_texts path) (ap (λ (i : ℕ). get_or d.paths i []) at ∙ r.2) ∙ same_own path ∙ sym t)
    (λ f. tested (same_texts path (get_or d.paths n []))
    (λ t. absurd (false≢true (sym f ∙ any_has (same_texts path) (get_or d.paths n []) d.paths (in_at [] d.paths n (leaf_below d (get_or path 0 []) n ok h)) t)))
    (λ g. g ∙ sym f))

pub path_missing : (d : NamedDimension) (path : List (List ℕ)) → IsDimension d → None ≡ found (get_or path 0 []) (distinct (names_at (plain d) 0)) → false ≡ list_any (same_texts path) d.paths
path_missing d path ok h = tested (list_any (same_texts path) d.paths)
    (λ t. let r = path_at d path ok t in absurd (none_some r.0 (h ∙ r.1)))
    (λ f. sym f)
  where
    none_some : (m : ℕ) → None ≡ Some m → ⊥
    none_some m e = cc
