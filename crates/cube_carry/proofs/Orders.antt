-- Levels, leaves and ancestors by the number of their dimension, and dimensions found by their names.
use Rattle.std.specs.List.{list_all, list_any}
use Rattle.std.specs.Str.{bytes_eq}
use Rattle.std.proofs.Common.{◌≡◌, ℕ, zero, suc, ◌<◌, ◌≤◌, ◌⊎◌, inl, inr, ◌↔◌, true, min, List, [], ◌∷◌, length, get_or, refl, sym, ap, ap₂, ◌∙◌, subst, arith, eqb, eqb-true, eq-eqb, leb, ⊎_elim}
use Rattle.std.proofs.lemmas.Bool.{false≢true, and_parts, and_from, leb-true, le-leb}
use Rattle.std.proofs.lemmas.List.{get_or-map, length-map}
use Rattle.cube_model.specs.Cubes.{Dimension, up, same, place_of, ancestors, is_finer, meet, are_levels, IsPoint}
use Rattle.cube_model.specs.Dims.{Dims, AreDistinct, plain, plains, dimension_names, dimension_at, no_dimension}
use Rattle.cube_model.proofs.DimsFacts.{Has, same-bytes_eq, place_of-own, place_of-below, place_of-absent, get_or-place_of}
use Rattle.cube_model.proofs.Members.{tested}
use Rattle.cube_model.proofs.Parities.{all_at}
use Rattle.cube_model.proofs.Walks.{any_alike}
use Rattle.cube_carry.specs.Names.{dimension_in, carried_levels}
use Rattle.cube_carry.specs.Continues.{has_dimension}
use Rattle.cube_carry.proofs.Dimensions.{in_at}

-- ---- by number
abbrev pub nowhere : Dimension
nowhere = plain no_dimension

pub plain_at : (s : Dims) (k : ℕ) → k < length s.dimensions → get_or (plains s) k nowhere ≡ plain (dimension_at s k)
plain_at s k h = get_or-map plain s.dimensions k no_dimension nowhere h

pub length-plains : (s : Dims) → length (plains s) ≡ length s.dimensions
length-plains s = length-map s.dimensions plain

-- the ancestors of two leaf vectors are the same exactly where those in each dimension are
pub alike_at : (ds : List Dimension) (c x y : List ℕ) → length c ≡ length ds → length x ≡ length ds → length y ≡ length ds → (same (ancestors ds c x) (ancestors ds c y) ≡ true) ↔ ((k : ℕ) → k < length ds → up (get_or ds k nowhere) (get_or c k 0) (get_or x k 0) ≡ up (get_or ds k nowhere) (get_or c k 0) (get_or y k 0))
alike_at [] c x y p q r = ((λ e k h. absurd (omega (arith, h))), (λ f. refl))
alike_at (d ∷ ds) [] x y p q r = absurd (omega (arith, p))
alike_at (d ∷ ds) (l ∷ ls) [] y p q r = absurd (omega (arith, q))
alike_at (d ∷ ds) (l ∷ ls) (x ∷ xs) [] p q r = absurd (omega (arith, r))
alike_at (d ∷ ds) (l ∷ ls) (x ∷ xs) (y ∷ ys) p q r = more (alike_at ds ls xs ys (omega (arith, p)) (omega (arith, q)) (omega (arith, r)))
  where
    more : (same (ancestors ds ls xs) (ancestors ds ls ys) ≡ true) ↔ ((k : ℕ) → k < length ds → up (get_or ds k nowhere) (get_or ls k 0) (get_or xs k 0) ≡ up (get_or ds k nowhere) (get_or ls k 0) (get_or ys k 0)) → (same (ancestors (d ∷ ds) (l ∷ ls) (x ∷ xs)) (ancestors (d ∷ ds) (l ∷ ls) (y ∷ ys)) ≡ true) ↔ ((k : ℕ) → k < suc (length ds) → up (get_or (d ∷ ds) k nowhere) (get_or (l ∷ ls) k 0) (get_or (x ∷ xs) k 0) ≡ up (get_or (d ∷ ds) k nowhere) (get_or (l ∷ ls) k 0) (get_or (y ∷ ys) k 0))
    more again = (there, back)
      where
        there : same (ancestors (d ∷ ds) (l ∷ ls) (x ∷ xs)) (ancestors (d ∷ ds) (l ∷ ls) (y ∷ ys)) ≡ true → (k : ℕ) → k < suc (length ds) → up (get_or (d ∷ ds) k nowhere) (get_or (l ∷ ls) k 0) (get_or (x ∷ xs) k 0) ≡ up (get_or (d ∷ ds) k nowhere) (get_or (l ∷ ls) k 0) (get_or (y ∷ ys) k 0)
        there e zero h = eqb-true (up d l x) (up d l y) (and_parts (eqb (up d l x) (up d l y)) (same (ancestors ds ls xs) (ancestors ds ls ys)) e).0
        there e (suc k) h = again.0 (and_parts (eqb (up d l x) (up d l y)) (same (ancestors ds ls xs) (ancestors ds ls ys)) e).1 k (omega (arith, h))

        back : ((k : ℕ) → k < suc (length ds) → up (get_or (d ∷ ds) k nowhere) (get_or (l ∷ ls) k 0) (get_or (x ∷ xs) k 0) ≡ up (get_or (d ∷ ds) k nowhere) (get_or (l ∷ ls) k 0) (get_or (y ∷ ys) k 0)) → same (ancestors (d ∷ ds) (l ∷ ls) (x ∷ xs)) (ancestors (d ∷ ds) (l ∷ ls) (y ∷ ys)) ≡ true
        back f = and_from (eqb (up d l x) (up d l y)) (same (ancestors ds ls xs) (ancestors ds ls ys)) (eq-eqb (up d l x) (up d l y) (f 0 (omega arith))) (again.1 (λ k h. f (suc k) (omega (arith, h))))

-- a key at a cuboid is that of a leaf vector exactly where it has each ancestor
pub key_from : (ds : List Dimension) (c x key : List ℕ) → length c ≡ length ds → length x ≡ length ds → length key ≡ length ds → ((k : ℕ) → k < length ds → up (get_or ds k nowhere) (get_or c k 0) (get_or x k 0) ≡ get_or key k 0) → ancestors ds c x ≡ key
key_from [] c x [] p q r f = refl
key_from [] c x (z ∷ zs) p q r f = absurd (omega (arith, r))
key_from (d ∷ ds) [] x key p q r f = absurd (omega (arith, p))
key_from (d ∷ ds) (l ∷ ls) [] key p q r f = absurd (omega (arith, q))
key_from (d ∷ ds) (l ∷ ls) (x ∷ xs) [] p q r f = absurd (omega (arith, r))
key_from (d ∷ ds) (l ∷ ls) (x ∷ xs) (z ∷ zs) p q r f = ap₂ (λ y ys. y ∷ ys) (f 0 (omega arith)) (key_from ds ls xs zs (omega (arith, p)) (omega (arith, q)) (omega (arith, r)) (λ k h. f (suc k) (omega (arith, h))))

pub ancestor_at : (ds : List Dimension) (c x : List ℕ) (k : ℕ) → length c ≡ length ds → length x ≡ length ds → k < length ds → get_or (ancestors ds c x) k 0 ≡ up (get_or ds k nowhere) (get_or c k 0) (get_or x k 0)
ancestor_at [] c x k p q h = absurd (omega (arith, h))
ancestor_at (d ∷ ds) [] x k p q h = absurd (omega (arith, p))
ancestor_at (d ∷ ds) (l ∷ ls) [] k p q h = absurd (omega (arith, q))
ancestor_at (d ∷ ds) (l ∷ ls) (x ∷ xs) zero p q h = refl
ancestor_at (d ∷ ds) (l ∷ ls) (x ∷ xs) (suc k) p q h = ancestor_at ds ls xs k (omega (arith, p)) (omega (arith, q)) (omega (arith, h))

pub point_long : (ds : List Dimension) (x : List ℕ) → IsPoint ds x → length x ≡ length ds
point_long [] [] h = refl
point_long [] (x ∷ xs) h = absurd h
point_long (d ∷ ds) [] h = absurd h
point_long (d ∷ ds) (x ∷ xs) h = ap suc (point_long ds xs h.1)

pub point_leaf : (ds : List Dimension) (x : List ℕ) (k : ℕ) → IsPoint ds x → k < length ds → get_or x k 0 < length (get_or ds k nowhere).paths
point_leaf [] x k h l = absurd (omega (arith, l))
point_leaf (d ∷ ds) [] k h l = absurd h
point_leaf (d ∷ ds) (x ∷ xs) zero h l = h.0
point_leaf (d ∷ ds) (x ∷ xs) (suc k) h l = point_leaf ds xs k h.1 (omega (arith, l))

-- levels in range, by number
pub levels_at : (ds : List Dimension) (c : List ℕ) → are_levels ds c ≡ true → (length c ≡ length ds) × ((k : ℕ) → k < length ds → get_or c k 0 ≤ (get_or ds k nowhere).levels)
levels_at [] [] e = (refl, λ k h. absurd (omega (arith, h)))
levels_at [] (l ∷ ls) e = absurd (false≢true e)
levels_at (d ∷ ds) [] e = absurd (false≢true e)
levels_at (d ∷ ds) (l ∷ ls) e = more (levels_at ds ls (and_parts (leb l d.levels) (are_levels ds ls) e).1)
  where
    more : (length ls ≡ length ds) × ((k : ℕ) → k < length ds → get_or ls k 0 ≤ (get_or ds k nowhere).levels) → (suc (length ls) ≡ suc (length ds)) × ((k : ℕ) → k < suc (length ds) → get_or (l ∷ ls) k 0 ≤ (get_or (d ∷ ds) k nowhere).levels)
    more again = (ap suc again.0, there)
      where
        there : (k : ℕ) → k < suc (length ds) → get_or (l ∷ ls) k 0 ≤ (get_or (d ∷ ds) k nowhere).levels
        there zero h = leb-true l d.levels (and_parts (leb l d.levels) (are_levels ds ls) e).0
        there (suc k) h = again.1 k (omega (arith, h))

pub levels_from : (ds : List Dimension) (c : List ℕ) → length c ≡ length ds → ((k : ℕ) → k < length ds → get_or c k 0 ≤ (get_or ds k nowhere).levels) → are_levels ds c ≡ true
levels_from [] [] p f = refl
levels_from [] (l ∷ ls) p f = absurd (omega (arith, p))
levels_from (d ∷ ds) [] p f = absurd (omega (arith, p))
levels_from (d ∷ ds) (l ∷ ls) p f = and_from (leb l d.levels) (are_levels ds ls) (le-leb l d.levels (f 0 (omega arith))) (levels_from ds ls (omega (arith, p)) (λ k h. f (suc k) (omega (arith, h))))

-- what is finer than levels in range is in range
pub finer_in_range : (ds : List Dimension) (c s : List ℕ) → is_finer c s ≡ true → are_levels ds s ≡ true → are_levels ds c ≡ true
finer_in_range [] [] s f e = refl
finer_in_range [] (l ∷ ls) [] f e = absurd (false≢true f)
finer_in_range [] (l ∷ ls) (k ∷ ks) f e = absurd (false≢true e)
finer_in_range (d ∷ ds) c [] f e = absurd (false≢true e)
finer_in_range (d ∷ ds) [] (k ∷ ks) f e = absurd (false≢true f)
finer_in_range (d ∷ ds) (l ∷ ls) (k ∷ ks) f e =
    let p = and_parts (leb l k) (is_finer ls ks) f in
    let q = and_parts (leb k d.levels) (are_levels ds ks) e in
    let x : l ≤ k = leb-true l k p.0 in
    let y : k ≤ d.levels = leb-true k d.levels q.0 in
    and_from (leb l d.levels) (are_levels ds ls) (le-leb l d.levels (omega (arith, x, y))) (finer_in_range ds ls ks p.1 q.1)

-- one cuboid is finer than another where each level is at most the other's
pub finer_at : (c s : List ℕ) → is_finer c s ≡ true → (k : ℕ) → k < length c → get_or c k 0 ≤ get_or s k 0
finer_at [] s e k h = absurd (omega (arith, h))
finer_at (l ∷ ls) [] e k h = absurd (false≢true e)
finer_at (l ∷ ls) (m ∷ ms) e zero h = leb-true l m (and_parts (leb l m) (is_finer ls ms) e).0
finer_at (l ∷ ls) (m ∷ ms) e (suc k) h = finer_at ls ms (and_parts (leb l m) (is_finer ls ms) e).1 k (omega (arith, h))

pub finer_from : (c s : List ℕ) → length c ≡ length s → ((k : ℕ) → k < length c → get_or c k 0 ≤ get_or s k 0) → is_finer c s ≡ true
finer_from [] [] p f = refl
finer_from [] (m ∷ ms) p f = absurd (omega (arith, p))
finer_from (l ∷ ls) [] p f = absurd (omega (arith, p))
finer_from (l ∷ ls) (m ∷ ms) p f = and_from (leb l m) (is_finer ls ms) (le-leb l m (f 0 (omega arith))) (finer_from ls ms (omega (arith, p)) (λ k h. f (suc k) (omega (arith, h))))

-- what two cuboids have together, their meet has
pub both_together : (ds : List Dimension) (c s x y : List ℕ) → same (ancestors ds c x) (ancestors ds c y) ≡ true → same (ancestors ds s x) (ancestors ds s y) ≡ true → length c ≡ length ds → length s ≡ length ds → length x ≡ length ds → length y ≡ length ds → same (ancestors ds (meet c s) x) (ancestors ds (meet c s) y) ≡ true
both_together [] c s x y p q a b e f = refl
both_together (d ∷ ds) [] s x y p q a b e f = absurd (omega (arith, a))
both_together (d ∷ ds) (l ∷ ls) [] x y p q a b e f = absurd (omega (arith, b))
both_together (d ∷ ds) (l ∷ ls) (m ∷ ms) [] y p q a b e f = absurd (omega (arith, e))
both_together (d ∷ ds) (l ∷ ls) (m ∷ ms) (x ∷ xs) [] p q a b e f = absurd (omega (arith, f))
both_together (d ∷ ds) (l ∷ ls) (m ∷ ms) (x ∷ xs) (y ∷ ys) p q a b e f =
    let p2 = and_parts (eqb (up d l x) (up d l y)) (same (ancestors ds ls xs) (ancestors ds ls ys)) p in
    let q2 = and_parts (eqb (up d m x) (up d m y)) (same (ancestors ds ms xs) (ancestors ds ms ys)) q in
    and_from (eqb (up d (min l m) x) (up d (min l m) y)) (same (ancestors ds (meet ls ms) xs) (ancestors ds (meet ls ms) ys))
    (⊎_elim (λ z. subst (λ k. eqb (up d k x) (up d k y) ≡ true) (sym z) p2.0) (λ z. subst (λ k. eqb (up d k x) (up d k y) ≡ true) (sym z) q2.0) (lesser l m))
    (both_together ds ls ms xs ys p2.1 q2.1 (omega (arith, a)) (omega (arith, b)) (omega (arith, e)) (omega (arith, f)))
  where
    lesser : (l m : ℕ) → (min l m ≡ l) ⊎ (min l m ≡ m)
    lesser l m = ⊎_elim (λ (z : l ≤ m). inl (omega (arith, z))) (λ (z : m ≤ l). inr (omega (arith, z))) (either l m)
      where
        either : (l m : ℕ) → (l ≤ m) ⊎ (m ≤ l)
        either l m = grind arith

-- lists of one length with the same elements are one
pub same_lists : (xs ys : List ℕ) → length xs ≡ length ys → ((k : ℕ) → k < length xs → get_or xs k 0 ≡ get_or ys k 0) → xs ≡ ys
same_lists [] [] p f = refl
same_lists [] (y ∷ ys) p f = absurd (omega (arith, p))
same_lists (x ∷ xs) [] p f = absurd (omega (arith, p))
same_lists (x ∷ xs) (y ∷ ys) p f = ap₂ (λ z zs. z ∷ zs) (f 0 (omega arith)) (same_lists xs ys (omega (arith, p)) (λ k h. f (suc k) (omega (arith, h))))

pub meet_at : (xs ys : List ℕ) (k : ℕ) → length xs ≡ length ys → k < length xs → get_or (meet xs ys) k 0 ≡ min (get_or xs k 0) (get_or ys k 0)
meet_at [] ys k p h = absurd (omega (arith, h))
meet_at (x ∷ xs) [] k p h = absurd (omega (arith, p))
meet_at (x ∷ xs) (y ∷ ys) zero p h = refl
meet_at (x ∷ xs) (y ∷ ys) (suc k) p h = meet_at xs ys k (omega (arith, p)) (omega (arith, h))

-- ---- dimensions found by their names
abbrev pub number_in : Dims → Dims → ℕ → ℕ
number_in s z k = dimension_in s (dimension_at z k)

pub is_among : (x : List ℕ) (xs : List (List ℕ)) → list_any (same x) xs ≡ true → Has x xs
is_among x xs h = sym (any_alike (same x) (bytes_eq x) xs (λ y k. same-bytes_eq x y)) ∙ h

-- a name that has a place stands there
pub stands_there : (x : List ℕ) (xs : List (List ℕ)) → place_of x xs < length xs → get_or xs (place_of x xs) [] ≡ x
stands_there x xs h = tested (list_any (bytes_eq x) xs) (λ t. get_or-place_of x xs t) (λ f. let e : place_of x xs ≡ length xs = place_of-absent x xs f in absurd (omega (arith, e, h)))

module _ (s z : Dims) (has : list_all (has_dimension s) z.dimensions ≡ true) where
  pub number_has : (k : ℕ) → k < length z.dimensions → Has (dimension_at z k).name (dimension_names s)
  number_has k h = is_among (dimension_at z k).name (dimension_names s) (all_at (has_dimension s) (dimension_at z k) z.dimensions has (in_at no_dimension z.dimensions k h))

  pub number_below : (k : ℕ) → k < length z.dimensions → number_in s z k < length s.dimensions
  number_below k h = let a = place_of-below (dimension_at z k).name (dimension_names s) (number_has k h) in let e = length-map s.dimensions (λ d. d.name) in omega (arith, a, e)

  pub number_name : (k : ℕ) → k < length z.dimensions → (dimension_at s (number_in s z k)).name ≡ (dimension_at z k).name
  number_name k h = sym (get_or-map (λ d. d.name) s.dimensions (number_in s z k) no_dimension [] (number_below k h)) ∙ get_or-place_of (dimension_at z k).name (dimension_names s) (number_has k h)

  -- there and back
  pub number_back : AreDistinct (dimension_names z) → (k : ℕ) → k < length z.dimensions → number_in z s (number_in s z k) ≡ k
  number_back once k h = ap (λ n. place_of n (dimension_names z)) (number_name k h ∙ sym (get_or-map (λ d. d.name) z.dimensions k no_dimension [] h)) ∙ place_of-own (dimension_names z) once k (let e = length-map z.dimensions (λ d. d.name) in omega (arith, e, h))

pub length-carried_levels : (s z : Dims) (c : List ℕ) → length (carried_levels s z c) ≡ length z.dimensions
length-carried_levels s z c = length-map z.dimensions (λ e. get_or c (dimension_in s e) 0)

pub carried_level_at : (s z : Dims) (c : List ℕ) (k : ℕ) → k < length z.dimensions → get_or (carried_levels s z c) k 0 ≡ get_or c (number_in s z k) 0
carried_level_at s z c k h = get_or-map (λ e. get_or c (dimension_in s e) 0) z.dimensions k no_dimension 0 h

-- levels put into the other order and back
pub levels_back : (s z : Dims) (c : List ℕ) → list_all (has_dimension s) z.dimensions ≡ true → AreDistinct (dimension_names z) → length c ≡ length z.dimensions → carried_levels s z (carried_levels z s c) ≡ c
levels_back s z c has once long = same_lists (carried_levels s z (carried_levels z s c)) c (length-carried_levels s z (carried_levels z s c) ∙ sym long) (λ k h.
    let l = length-carried_levels s z (carried_levels z s c) in
    let b : k < length z.dimensions = omega (arith, l, h) in
    carried_level_at s z (carried_levels z s c) k b ∙ carried_level_at z s c (number_in s z k) (number_below s z has k b) ∙ ap (λ n. get_or c n 0) (number_back s z has once k b))
