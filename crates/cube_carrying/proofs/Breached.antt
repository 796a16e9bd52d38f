-- The first of what keeps a cube from continuing another, found part by part.
use Rattle.std.proofs.Common.{◌≡◌, ℕ, zero, suc, ◌+◌, ◌<◌, inl, inr, ◌||◌, ◌&&◌, Bool, true, false, not, cond, List, [], ◌∷◌, ◌++◌, length, map, filter, flat_map, find, get_or, Option, Some, None, ℤ, refl, sym, ap, ◌∙◌, arith, nat_lt}
use Rattle.std.specs.List.{list_all, list_any, position_or_len, position}
use Rattle.std.proofs.lemmas.Bool.{and_parts}
use Rattle.std.proofs.lemmas.Bool.Decides.{nat_tests}
use Rattle.std.proofs.lemmas.List.Quantifiers.{position-Some}
use Rattle.cube_model.specs.Cubes.{count_from, places, IsIn}
use Rattle.cube_model.specs.Dims.{Dims, NamedDimension, dimension_at, no_dimension}
use Rattle.cube_model.specs.Protection.{first, protected}
use Rattle.cube_model.specs.declared.cell.Cell.{Cell}
use Rattle.cube_model.proofs.Members.{find_none, count_from_has, IsIn-count_from}
use Rattle.cube_model.proofs.Parities.{all_at, all_from}
use Rattle.cube_carry.specs.Continues.{Breach, Continues, KeepsValues, failing, breaches, has_dimension, has_levels, has_path, has_paths, has_measure, has_point, has_values, protects}
use Rattle.cube_carry.specs.Continues.Breach.{NoDimension, OtherDimension, OtherLevels, NoPath, NoMeasure, NoPoint, NotProtected}
use Rattle.cube_carry.specs.Names.{Named, known}
use Rattle.cube_carry.proofs.Dimensions.{stands}
use Rattle.cube_carrying.specs.Comparing.{HasDims, dims_breaches}
use Rattle.cube_carrying.specs.Firsts.{first_failing, first_number, first_with, with_number}

-- ---- what fails a test

passed : (b : Bool) → not b ≡ false → b ≡ true
passed true e = refl
passed false e = absurd (cc)

pub none_fails : {X : Type 0} (p : X → Bool) (xs : List X) → list_all p xs ≡ true → failing p xs ≡ []
none_fails p [] e = refl
none_fails p (x ∷ xs) e = let r = and_parts (p x) (list_all p xs) e in rw r.0 (none_fails p xs r.1)

any_below : {X : Type 0} (test : X → Bool) (xs : List X) → list_any test xs ≡ nat_lt (position_or_len test xs) (length xs)
any_below test [] = refl
any_below test (x ∷ xs) = by_test (test x) (any_below test xs)
  where
    by_test : (b : Bool) → list_any test xs ≡ nat_lt (position_or_len test xs) (length xs) → (b || list_any test xs) ≡ nat_lt (cond (not b) (1 + position_or_len test xs) 0) (suc (length xs))
    by_test true e = grind (arith, nat_tests)
    by_test false e = grind (arith, nat_tests, e)

nothing_passes : {X : Type 0} (test : X → Bool) (xs : List X) → position test xs ≡ None → list_any test xs ≡ false
nothing_passes test xs e = any_below test xs ∙ by_test (nat_lt (position_or_len test xs) (length xs)) e
  where
    by_test : (b : Bool) → cond b (Some (position_or_len test xs)) None ≡ None → b ≡ false
    by_test true e = absurd (cc)
    by_test false e = refl

all_pass : {X : Type 0} (p : X → Bool) (xs : List X) → list_any (λ x. not (p x)) xs ≡ false → list_all p xs ≡ true
all_pass p [] e = refl
all_pass p (x ∷ xs) e = go (p x) e (λ h. all_pass p xs h)
  where
    go : (b : Bool) → (not b || list_any (λ x. not (p x)) xs) ≡ false → (list_any (λ x. not (p x)) xs ≡ false → list_all p xs ≡ true) → (b && list_all p xs) ≡ true
    go true h again = again h
    go false h again = absurd (cc)

pub none_failing : {X : Type 0} (p : X → Bool) (xs : List X) → first_failing p xs ≡ None → list_all p xs ≡ true
none_failing p xs e = all_pass p xs (nothing_passes (λ x. not (p x)) xs e)

pub none_numbered : {X : Type 0} (p : X → Bool) (xs : List X) → find (λ x. not (p x)) xs ≡ None → list_all p xs ≡ true
none_numbered p xs e = all_from p xs (λ x m. passed (p x) (find_none (λ x. not (p x)) x xs e m))

-- ---- the first of some

pub first_map : {X Y : Type 0} (f : X → Y) (xs : List X) (x : X) → first xs ≡ Some x → first (map f xs) ≡ Some (f x)
first_map f [] x e = absurd (cc)
first_map {X} {Y} f (y ∷ xs) x e = let q : y ≡ x = cc in ap (λ (u : X). Some (f u)) q

pub first_left : {X : Type 0} (xs ys : List X) (x : X) → first xs ≡ Some x → first (xs ++ ys) ≡ Some x
first_left [] ys x e = absurd (cc)
first_left (y ∷ xs) ys x e = e

pub first_right : {X : Type 0} (xs ys : List X) (x : X) → xs ≡ [] → first ys ≡ Some x → first (xs ++ ys) ≡ Some x
first_right {X} xs ys x n e = ap (λ (l : List X). first (l ++ ys)) n ∙ e

pub none_both : {X : Type 0} (xs ys : List X) → xs ≡ [] → ys ≡ [] → xs ++ ys ≡ []
none_both {X} xs ys p q = ap (λ (l : List X). l ++ ys) p ∙ q

first_kept : {X : Type 0} (q : X → Bool) (xs : List X) (n : ℕ) (d : X) → n < length xs → q (get_or xs n d) ≡ true → ((k : ℕ) → k < n → q (get_or xs k d) ≡ false) → first (filter q xs) ≡ Some (get_or xs n d)
first_kept q [] n d l t f = absurd (omega (arith, l))
first_kept q (x ∷ xs) zero d l t f = rw t refl
first_kept q (x ∷ xs) (suc n) d l t f = let e : q x ≡ false = f 0 (omega arith) in rw e (first_kept q xs n d (omega (arith, l)) t (λ k h. f (suc k) (omega (arith, h))))

pub first_fails : {X : Type 0} (p : X → Bool) (xs : List X) (n : ℕ) (d : X) → first_failing p xs ≡ Some n → first (failing p xs) ≡ Some (get_or xs n d)
first_fails p xs n d e = let r = position-Some (λ x. not (p x)) xs n d e in first_kept (λ x. not (p x)) xs n d r.0 r.1 r.2

pub find_first : {X : Type 0} (q : X → Bool) (xs : List X) → find q xs ≡ first (filter q xs)
find_first q [] = refl
find_first {X} q (x ∷ xs) = go (q x) (find_first q xs)
  where
    go : (b : Bool) → find q xs ≡ first (filter q xs) → cond b (Some x) (find q xs) ≡ first (cond b (x ∷ filter q xs) (filter q xs))
    go true e = refl
    go false e = e

-- ---- the first of the numbers that has something

pub with_none_at : {Y : Type 0} (f : ℕ → Option Y) (ks : List ℕ) (k : ℕ) → first_with f ks ≡ None → IsIn k ks → f k ≡ None
with_none_at f [] k e m = absurd m
with_none_at {Y} f (j ∷ ks) k e m = go (f j) refl e m (λ r h. with_none_at f ks k r h)
  where
    go : (o : Option Y) → f j ≡ o → with_number j o (first_with f ks) ≡ None → IsIn k (j ∷ ks) → (first_with f ks ≡ None → IsIn k ks → f k ≡ None) → f k ≡ None
    go None q r (inl h) again = ap f (sym h) ∙ q
    go None q r (inr h) again = again r h
    go (Some x) q r h again = absurd (cc)

abbrev made : {Y Z : Type 0} → (ℕ → Y → Z) → Option (ℕ × Y) → Option Z
made h None = None
made h (Some e) = Some (h e.0 e.1)

pub with_found : {Y Z : Type 0} (f : ℕ → Option Y) (g : ℕ → List Z) (h : ℕ → Y → Z) (ks : List ℕ) (k : ℕ) (y : Y) → ((j : ℕ) → f j ≡ None → g j ≡ []) → ((j : ℕ) (y : Y) → f j ≡ Some y → first (g j) ≡ Some (h j y))
    → first_with f ks ≡ Some (k, y) → first (flat_map g ks) ≡ Some (h k y)
with_found f g h [] k y none some e = absurd (cc)
with_found {Y} {Z} f g h (j ∷ ks) k y none some e = go (f j) refl e (λ r. with_found f g h ks k y none some r)
  where
    go : (o : Option Y) → f j ≡ o → with_number j o (first_with f ks) ≡ Some (k, y) → (first_with f ks ≡ Some (k, y) → first (flat_map g ks) ≡ Some (h k y)) → first (g j ++ flat_map g ks) ≡ Some (h k y)
    go None q r again = first_right (g j) (flat_map g ks) (h k y) (none j q) (again r)
    go (Some x) q r again = first_left (g j) (flat_map g ks) (h k y) (some j x q ∙ ap (made h) r)

pub flat_none : {X Y : Type 0} (f : X → List Y) (xs : List X) → ((x : X) → IsIn x xs → f x ≡ []) → flat_map f xs ≡ []
flat_none f [] e = refl
flat_none f (x ∷ xs) e = none_both (f x) (flat_map f xs) (e x (inl refl)) (flat_none f xs (λ y m. e y (inr m)))

flat_later : {Y : Type 0} (f : ℕ → List Y) (s n : ℕ) → flat_map f (count_from (suc s) n) ≡ flat_map (λ k. f (suc k)) (count_from s n)
flat_later f s zero = refl
flat_later {Y} f s (suc n) = ap (λ (l : List Y). f (suc s) ++ l) (flat_later f (suc s) n)

-- elements by their numbers
pub flat_counted : {X Y : Type 0} (f : X → List Y) (xs : List X) (d : X) → flat_map f xs ≡ flat_map (λ k. f (get_or xs k d)) (count_from 0 (length xs))
flat_counted f [] d = refl
flat_counted {X} {Y} f (x ∷ xs) d = ap (λ (l : List Y). f x ++ l) (flat_counted f xs d ∙ sym (flat_later (λ k. f (get_or (x ∷ xs) k d)) 0 (length xs)))

-- what is found is there
pub with_found_at : {Y : Type 0} (f : ℕ → Option Y) (ks : List ℕ) (k : ℕ) (y : Y) → first_with f ks ≡ Some (k, y) → IsIn k ks × (f k ≡ Some y)
with_found_at f [] k y e = absurd (cc)
with_found_at {Y} f (j ∷ ks) k y e = go (f j) refl e (λ r. with_found_at f ks k y r)
  where
    go : (o : Option Y) → f j ≡ o → with_number j o (first_with f ks) ≡ Some (k, y) → (first_with f ks ≡ Some (k, y) → IsIn k ks × (f k ≡ Some y)) → IsIn k (j ∷ ks) × (f k ≡ Some y)
    go None q r again = let w = again r in (inr w.0, w.1)
    go (Some x) q r again = let n : j ≡ k = some_eq (ap (made (λ (i : ℕ) (z : Y). i)) r) in (inl n, ap f (sym n) ∙ q ∙ ap (made (λ (i : ℕ) (z : Y). z)) r)
      where
        some_eq : Some j ≡ Some k → j ≡ k
        some_eq h = cc

pub found_in : {X : Type 0} (q : X → Bool) (xs : List X) (x : X) → find q xs ≡ Some x → IsIn x xs
found_in q [] x e = absurd (cc)
found_in {X} q (y ∷ xs) x e = go (q y) e (λ r. found_in q xs x r)
  where
    go : (b : Bool) → cond b (Some y) (find q xs) ≡ Some x → (find q xs ≡ Some x → IsIn x xs) → IsIn x (y ∷ xs)
    go true r again = inl (cc)
    go false r again = inr (again r)

pub number_below : (q : ℕ → Bool) (n k : ℕ) → find q (count_from 0 n) ≡ Some k → k < n
number_below q n k e = let r = IsIn-count_from k 0 n (found_in q (count_from 0 n) k e) in omega (arith, r.1)

pub failing_below : {X : Type 0} (p : X → Bool) (xs : List X) (n : ℕ) (d : X) → first_failing p xs ≡ Some n → n < length xs
failing_below p xs n d e = (position-Some (λ x. not (p x)) xs n d e).0

-- ---- the dimensions

module _ (s z : Dims) where
  pub no_dimension_first : (n : ℕ) → first_failing (has_dimension z) s.dimensions ≡ Some n → first (dims_breaches s z) ≡ Some (NoDimension (dimension_at s n).name)
  no_dimension_first n e = first_left _ _ _ (first_left _ _ _ (first_left _ _ _ (first_map (λ d. NoDimension d.name) (failing (has_dimension z) s.dimensions) (dimension_at s n) (first_fails (has_dimension z) s.dimensions n no_dimension e))))

  no_dimensions : list_all (has_dimension z) s.dimensions ≡ true → map (λ d. NoDimension d.name) (failing (has_dimension z) s.dimensions) ≡ []
  no_dimensions h = ap (map (λ d. NoDimension d.name)) (none_fails (has_dimension z) s.dimensions h)

  no_others : list_all (has_dimension s) z.dimensions ≡ true → map (λ d. OtherDimension d.name) (failing (has_dimension s) z.dimensions) ≡ []
  no_others h = ap (map (λ d. OtherDimension d.name)) (none_fails (has_dimension s) z.dimensions h)

  no_levels : list_all (has_levels z) s.dimensions ≡ true → map (λ d. OtherLevels d.name) (failing (has_levels z) s.dimensions) ≡ []
  no_levels h = ap (map (λ d. OtherLevels d.name)) (none_fails (has_levels z) s.dimensions h)

  pub other_dimension_first : (n : ℕ) → list_all (has_dimension z) s.dimensions ≡ true → first_failing (has_dimension s) z.dimensions ≡ Some n → first (dims_breaches s z) ≡ Some (OtherDimension (dimension_at z n).name)
  other_dimension_first n h e = first_left _ _ _ (first_left _ _ _ (first_right _ _ _ (no_dimensions h) (first_map (λ d. OtherDimension d.name) (failing (has_dimension s) z.dimensions) (dimension_at z n) (first_fails (has_dimension s) z.dimensions n no_dimension e))))

  pub other_levels_first : (n : ℕ) → list_all (has_dimension z) s.dimensions ≡ true → list_all (has_dimension s) z.dimensions ≡ true → first_failing (has_levels z) s.dimensions ≡ Some n → first (dims_breaches s z) ≡ Some (OtherLevels (dimension_at s n).name)
  other_levels_first n h k e = first_left _ _ _ (first_right _ _ _ (none_both _ _ (no_dimensions h) (no_others k)) (first_map (λ d. OtherLevels d.name) (failing (has_levels z) s.dimensions) (dimension_at s n) (first_fails (has_levels z) s.dimensions n no_dimension e)))

  path_first : (d n : ℕ) → first_failing (has_path z (dimension_at s d)) (dimension_at s d).paths ≡ Some n
      → first (map (NoPath (dimension_at s d).name) (failing (has_path z (dimension_at s d)) (dimension_at s d).paths)) ≡ Some (NoPath (dimension_at s d).name (get_or (dimension_at s d).paths n []))
  path_first d n e = first_map (NoPath (dimension_at s d).name) (failing (has_path z (dimension_at s d)) (dimension_at s d).paths) (get_or (dimension_at s d).paths n []) (first_fails (has_path z (dimension_at s d)) (dimension_at s d).paths n [] e)

  pub no_path_first : (d n : ℕ) → list_all (has_dimension z) s.dimensions ≡ true → list_all (has_dimension s) z.dimensions ≡ true → list_all (has_levels z) s.dimensions ≡ true
      → first_with (λ d. first_failing (has_path z (dimension_at s d)) (dimension_at s d).paths) (count_from 0 (length s.dimensions)) ≡ Some (d, n)
      → first (dims_breaches s z) ≡ Some (NoPath (dimension_at s d).name (get_or (dimension_at s d).paths n []))
  no_path_first d n h k l e = first_right _ _ _ (none_both _ _ (none_both _ _ (no_dimensions h) (no_others k)) (no_levels l))
      (ap first (flat_counted (λ (d : NamedDimension). map (NoPath d.name) (failing (has_path z d) d.paths)) s.dimensions no_dimension)
      ∙ with_found (λ d. first_failing (has_path z (dimension_at s d)) (dimension_at s d).paths) (λ d. map (NoPath (dimension_at s d).name) (failing (has_path z (dimension_at s d)) (dimension_at s d).paths))
      (λ d n. NoPath (dimension_at s d).name (get_or (dimension_at s d).paths n [])) (count_from 0 (length s.dimensions)) d n
      (λ j q. ap (map (NoPath (dimension_at s j).name)) (none_fails (has_path z (dimension_at s j)) (dimension_at s j).paths (none_failing (has_path z (dimension_at s j)) (dimension_at s j).paths q)))
      path_first e)

  pub have_paths : first_with (λ d. first_failing (has_path z (dimension_at s d)) (dimension_at s d).paths) (count_from 0 (length s.dimensions)) ≡ None → list_all (has_paths z) s.dimensions ≡ true
  have_paths e = all_from (has_paths z) s.dimensions (λ d m.
      let at = stands d no_dimension s.dimensions m in
      let none = with_none_at (λ d. first_failing (has_path z (dimension_at s d)) (dimension_at s d).paths) (count_from 0 (length s.dimensions)) at.0 e (count_from_has at.0 0 (length s.dimensions) (omega arith) (omega (arith, at.1))) in
      ap (has_paths z) (sym at.2) ∙ none_failing (has_path z (dimension_at s at.0)) (dimension_at s at.0).paths none)

  pub no_dims_breach : HasDims s z → dims_breaches s z ≡ []
  no_dims_breach h = none_both _ _ (none_both _ _ (none_both _ _ (no_dimensions h.dimensions) (no_others h.no_other)) (no_levels h.levels))
      (flat_none (λ d. map (NoPath d.name) (failing (has_path z d) d.paths)) s.dimensions (λ d m. ap (map (NoPath d.name)) (none_fails (has_path z d) d.paths (all_at (has_paths z) d s.dimensions h.paths m))))

-- ---- all of it

-- two tests that all pass
pub all_both : {X : Type 0} (p q : X → Bool) (xs : List X) → list_all (λ x. p x && q x) xs ≡ true → (list_all p xs ≡ true) × (list_all q xs ≡ true)
all_both p q xs e = (all_from p xs (λ x h. (and_parts (p x) (q x) (all_at (λ y. p y && q y) x xs e h)).0), all_from q xs (λ x h. (and_parts (p x) (q x) (all_at (λ y. p y && q y) x xs e h)).1))

module _ (a b : Named) (old new : List (List ℤ)) where
  pub dims_first : (why : Breach) → first (dims_breaches a.dims b.dims) ≡ Some why → first (breaches a b old new) ≡ Some why
  dims_first why e = first_left _ _ why (first_left _ _ why (first_left _ _ why e))

  no_measures : list_all (has_measure a b) (count_from 0 (length a.dims.measures)) ≡ true → map NoMeasure (failing (has_measure a b) (count_from 0 (length a.dims.measures))) ≡ []
  no_measures h = ap (map NoMeasure) (none_fails (has_measure a b) (count_from 0 (length a.dims.measures)) h)

  no_points : list_all (λ i. has_point a b i && has_values a b old new i) (places (known a)) ≡ true → map NoPoint (failing (λ i. has_point a b i && has_values a b old new i) (places (known a))) ≡ []
  no_points h = ap (map NoPoint) (none_fails (λ i. has_point a b i && has_values a b old new i) (places (known a)) h)

  pub measure_first : (m : ℕ) → HasDims a.dims b.dims → first_number (has_measure a b) (length a.dims.measures) ≡ Some m → first (breaches a b old new) ≡ Some (NoMeasure m)
  measure_first m h e = first_left _ _ (NoMeasure m) (first_left _ _ (NoMeasure m) (first_right _ _ (NoMeasure m) (no_dims_breach a.dims b.dims h)
      (first_map NoMeasure (failing (has_measure a b) (count_from 0 (length a.dims.measures))) m (sym (find_first (λ m. not (has_measure a b m)) (count_from 0 (length a.dims.measures))) ∙ e))))

  pub point_first : (i : ℕ) → HasDims a.dims b.dims → list_all (has_measure a b) (count_from 0 (length a.dims.measures)) ≡ true
      → first_number (λ i. has_point a b i && has_values a b old new i) (length a.shape.points) ≡ Some i → first (breaches a b old new) ≡ Some (NoPoint i)
  point_first i h k e = first_left _ _ (NoPoint i) (first_right _ _ (NoPoint i) (none_both _ _ (no_dims_breach a.dims b.dims h) (no_measures k))
      (first_map NoPoint (failing (λ i. has_point a b i && has_values a b old new i) (places (known a))) i (sym (find_first (λ i. not (has_point a b i && has_values a b old new i)) (places (known a))) ∙ e)))

  cell_at : (m : ℕ) (t : Cell) → find (λ t. not (protects a b m t)) (protected (known a) m) ≡ Some t → first (map (NotProtected m) (failing (protects a b m) (protected (known a) m))) ≡ Some (NotProtected m t)
  cell_at m t e = first_map (NotProtected m) (failing (protects a b m) (protected (known a) m)) t (sym (find_first (λ t. not (protects a b m t)) (protected (known a) m)) ∙ e)

  pub cell_first : (m : ℕ) (t : Cell) → HasDims a.dims b.dims → list_all (has_measure a b) (count_from 0 (length a.dims.measures)) ≡ true
      → list_all (λ i. has_point a b i && has_values a b old new i) (places (known a)) ≡ true
      → first_with (λ m. find (λ t. not (protects a b m t)) (protected (known a) m)) (count_from 0 (length a.dims.measures)) ≡ Some (m, t)
      → first (breaches a b old new) ≡ Some (NotProtected m t)
  cell_first m t h k l e = first_right _ _ (NotProtected m t) (none_both _ _ (none_both _ _ (no_dims_breach a.dims b.dims h) (no_measures k)) (no_points l))
      (with_found (λ m. find (λ t. not (protects a b m t)) (protected (known a) m)) (λ m. map (NotProtected m) (failing (protects a b m) (protected (known a) m))) NotProtected (count_from 0 (length a.dims.measures)) m t
      (λ j q. ap (map (NotProtected j)) (none_fails (protects a b j) (protected (known a) j) (none_numbered (protects a b j) (protected (known a) j) q)))
      cell_at e)

  pub nothing_keeps : HasDims a.dims b.dims → list_all (has_measure a b) (count_from 0 (length a.dims.measures)) ≡ true
      → list_all (λ i. has_point a b i && has_values a b old new i) (places (known a)) ≡ true
      → first_with (λ m. find (λ t. not (protects a b m t)) (protected (known a) m)) (count_from 0 (length a.dims.measures)) ≡ None
      → Continues a b × KeepsValues a b old new
  nothing_keeps h k l e =
      let both = all_both (has_point a b) (has_values a b old new) (places (known a)) l in (
        record {
          dimensions = h.dimensions;
          no_other = h.no_other;
          levels = h.levels;
          paths = h.paths;
          measures = k;
          points = both.0;
          cells = all_from (λ m. list_all (protects a b m) (protected (known a) m)) (count_from 0 (length a.dims.measures)) (λ m i. none_numbered (protects a b m) (protected (known a) m) (with_none_at (λ m. find (λ t. not (protects a b m t)) (protected (known a) m)) (count_from 0 (length a.dims.measures)) m e i));
        },
        both.1,
      )
