-- Names numbered by their first appearance.
use Rattle.std.proofs.Common.{add-one, ◌≡◌, ℕ, zero, suc, ◌+◌, ◌<◌, ◌≤◌, Bool, true, false, not, cond, ◌||◌, List, [], ◌∷◌, ◌++◌, length, map, filter, take, refl, sym, ap, subst, ◌∙◌, get_or, arith, eqb, eqb-true, eq-eqb, ltb, position, Some, None, nat_lt, ◌==◌}
use Rattle.std.specs.List.{list_any, position_or_len}
use Rattle.std.specs.Str.{bytes_eq}
use Rattle.std.proofs.lemmas.Bool.Decides.{nat_tests}
use Rattle.std.proofs.lemmas.Bool.{false≢true, or_left, or_right, lt-ltb, le-ltb, ltb-true, ltb-false}
use Rattle.std.proofs.lemmas.List.{length-map, map-append, append-nil, append_assoc, get_or-map, take_all}
use Rattle.std.proofs.lemmas.List.Sums.{length-filter, count_by-le-length}
use Rattle.std.proofs.lemmas.Simd.{map-map}
use Rattle.std.proofs.Math.Seq.{take-suc}
use Rattle.std.proofs.lemmas.List.Elements.{filter-append}
use Rattle.std.proofs.lemmas.Slice.Eq.{bytes_eq-Decides}
use Rattle.indexmap.specs.IndexSet.{insert_key}
use Rattle.cube_model.specs.Cubes.{same, distinct, place_of, names_at, count_from, up}
use Rattle.cube_model.specs.Dims.{AreNumbered, AreDistinct, NamedDimension, plain, ancestor_names}
use Rattle.cube_model.proofs.Members.{tested, same_eq, same_refl}

-- ---- the test of texts

bytes_eq_refl : (x : List ℕ) → bytes_eq x x ≡ true
bytes_eq_refl x = (bytes_eq-Decides x x).1 refl

pub same-bytes_eq : (x y : List ℕ) → same x y ≡ bytes_eq x y
same-bytes_eq x y = tested (same x y)
    (λ t. t ∙ sym ((bytes_eq-Decides x y).1 (same_eq x y t)))
    (λ f. tested (bytes_eq x y)
    (λ t. let e : x ≡ y = (bytes_eq-Decides x y).0 t in absurd (false≢true (sym f ∙ ap (same x) (sym e) ∙ same_refl x)))
    (λ g. f ∙ sym g))

-- the name is among the names
abbrev pub Has : List ℕ → List (List ℕ) → Type 0
Has x xs = list_any (bytes_eq x) xs ≡ true

pub place_of-position : (x : List ℕ) (xs : List (List ℕ)) → place_of x xs ≡ position_or_len (bytes_eq x) xs
place_of-position x [] = refl
place_of-position x (y ∷ ys) = rw (same-bytes_eq x y) (by_test (bytes_eq x y) (place_of-position x ys))
  where
    by_test : (b : Bool) → place_of x ys ≡ position_or_len (bytes_eq x) ys → cond b 0 (suc (place_of x ys)) ≡ cond (not b) (1 + position_or_len (bytes_eq x) ys) 0
    by_test true e = refl
    by_test false e = omega (arith, e)

-- what holds of x and of all names behind it
has_cases : {P : Type 0} (x y : List ℕ) (ys : List (List ℕ)) → Has x (y ∷ ys) → (x ≡ y → P) → (bytes_eq x y ≡ false → Has x ys → P) → P
has_cases x y ys h f g = tested (bytes_eq x y) (λ t. f ((bytes_eq-Decides x y).0 t)) (λ n. g n (rw n at h))

pub has_head : (x : List ℕ) (xs : List (List ℕ)) → Has x (x ∷ xs)
has_head x xs = or_left (bytes_eq x x) (list_any (bytes_eq x) xs) (bytes_eq_refl x)

pub has_tail : (x y : List ℕ) (ys : List (List ℕ)) → Has x ys → Has x (y ∷ ys)
has_tail x y ys h = or_right (bytes_eq x y) (list_any (bytes_eq x) ys) h

pub has_at : (xs : List (List ℕ)) (i : ℕ) → i < length xs → Has (get_or xs i []) xs
has_at [] i l = absurd (omega (arith, l))
has_at (x ∷ xs) zero l = has_head x xs
has_at (x ∷ xs) (suc i) l = has_tail (get_or xs i []) x xs (has_at xs i (omega (arith, l)))

pub map_same : {Y : Type 0} (f g : List ℕ → Y) (xs : List (List ℕ)) → ((x : List ℕ) → Has x xs → f x ≡ g x) → map f xs ≡ map g xs
map_same f g [] h = refl
map_same {Y} f g (x ∷ xs) h =
    let rest : map f xs ≡ map g xs = map_same f g xs (λ y k. h y (has_tail y x xs k)) in
    let first : f x ≡ g x = h x (has_head x xs) in
    cc

map_id : (xs : List (List ℕ)) → map (λ x. x) xs ≡ xs
map_id [] = refl
map_id (x ∷ xs) = ap (λ ys. x ∷ ys) (map_id xs)

-- ---- places

pub place_of-append : (x : List ℕ) (xs ys : List (List ℕ)) → Has x xs → place_of x (xs ++ ys) ≡ place_of x xs
place_of-append x [] ys h = absurd (false≢true h)
place_of-append x (y ∷ xs) ys h = has_cases x y xs h
    (λ e. let t : same x y ≡ true = ap (same x) (sym e) ∙ same_refl x in rw t refl)
    (λ n k. let f : same x y ≡ false = same-bytes_eq x y ∙ n in rw f (ap suc (place_of-append x xs ys k)))

pub place_of-last : (x : List ℕ) (xs : List (List ℕ)) → list_any (bytes_eq x) xs ≡ false → place_of x (xs ++ x ∷ []) ≡ length xs
place_of-last x [] h = rw (same_refl x) refl
place_of-last x (y ∷ xs) h = tested (bytes_eq x y)
    (λ t. absurd (false≢true (sym h ∙ or_left (bytes_eq x y) (list_any (bytes_eq x) xs) t)))
    (λ n. let f : same x y ≡ false = same-bytes_eq x y ∙ n in
    let k : list_any (bytes_eq x) xs ≡ false = rw n at h in
    rw f (ap suc (place_of-last x xs k)))

pub place_of-absent : (x : List ℕ) (xs : List (List ℕ)) → list_any (bytes_eq x) xs ≡ false → place_of x xs ≡ length xs
place_of-absent x [] h = refl
place_of-absent x (y ∷ xs) h = tested (bytes_eq x y)
    (λ t. absurd (false≢true (sym h ∙ or_left (bytes_eq x y) (list_any (bytes_eq x) xs) t)))
    (λ n. let f : same x y ≡ false = same-bytes_eq x y ∙ n in
    let k : list_any (bytes_eq x) xs ≡ false = rw n at h in
    rw f (ap suc (place_of-absent x xs k)))

pub place_of-below : (x : List ℕ) (xs : List (List ℕ)) → Has x xs → place_of x xs < length xs
place_of-below x [] h = absurd (false≢true h)
place_of-below x (y ∷ xs) h = has_cases x y xs h
    (λ e. let t : same x y ≡ true = ap (same x) (sym e) ∙ same_refl x in rw t (omega arith))
    (λ n k. let f : same x y ≡ false = same-bytes_eq x y ∙ n in let b = place_of-below x xs k in rw f (omega (arith, b)))

-- no place of a name is before its first
pub place_of-le : (x : List ℕ) (xs : List (List ℕ)) (i : ℕ) → i < length xs → get_or xs i [] ≡ x → place_of x xs ≤ i
place_of-le x [] i l e = absurd (omega (arith, l))
place_of-le x (y ∷ xs) zero l e = let t : same x y ≡ true = ap (same x) e ∙ same_refl x in rw t (omega arith)
place_of-le x (y ∷ xs) (suc i) l e =
    tested (same x y) (λ t. rw t (omega arith)) (λ f. rw f (let b = place_of-le x xs i (omega (arith, l)) e in omega (arith, b)))

-- a name stands before a place where its first place is
pub lt-place_of : (x : List ℕ) (xs : List (List ℕ)) (i : ℕ) → i ≤ length xs → ltb (place_of x xs) i ≡ list_any (bytes_eq x) (take i xs)
lt-place_of x xs zero l = le-ltb (place_of x xs) 0 (omega arith)
lt-place_of x [] (suc i) l = absurd (omega (arith, l))
lt-place_of x (y ∷ xs) (suc i) l = rw (← same-bytes_eq x y)
    (tested (same x y)
    (λ t. rw (t, lt-ltb 0 (suc i) (omega arith)) refl)
    (λ f. rw f (ltb_more (place_of x xs) i ∙ lt-place_of x xs i (omega (arith, l)))))
  where
    ltb_more : (a b : ℕ) → ltb (suc a) (suc b) ≡ ltb a b
    ltb_more a b = tested (ltb a b) (λ t. lt-ltb (suc a) (suc b) (let h = ltb-true a b t in omega (arith, h)) ∙ sym t) (λ f. le-ltb (suc a) (suc b) (let h = ltb-false a b f in omega (arith, h)) ∙ sym f)

pub get_or-place_of : (x : List ℕ) (xs : List (List ℕ)) → Has x xs → get_or xs (place_of x xs) [] ≡ x
get_or-place_of x [] h = absurd (false≢true h)
get_or-place_of x (y ∷ xs) h = has_cases x y xs h
    (λ e. let t : same x y ≡ true = ap (same x) (sym e) ∙ same_refl x in rw t (sym e))
    (λ n k. let f : same x y ≡ false = same-bytes_eq x y ∙ n in rw f (get_or-place_of x xs k))

-- ---- each name once

-- a name that differs from x is among names where it is among those that differ from x
any_unlike : (x y : List ℕ) (zs : List (List ℕ)) → same x y ≡ false → list_any (bytes_eq y) (filter (λ z. not (same x z)) zs) ≡ list_any (bytes_eq y) zs
any_unlike x y [] n = refl
any_unlike x y (z ∷ zs) n = tested (same x z)
    (λ t. let e : bytes_eq y z ≡ false = tested (bytes_eq y z) (λ u. let yz : y ≡ z = (bytes_eq-Decides y z).0 u in absurd (false≢true (sym n ∙ ap (same x) yz ∙ t))) (λ u. u) in
    rw (t, e) (any_unlike x y zs n))
    (λ f. rw f (ap (λ b. bytes_eq y z || b) (any_unlike x y zs n)))

unlike : (x y : List ℕ) → bytes_eq y x ≡ false → same x y ≡ false
unlike x y n = tested (same x y) (λ t. absurd (false≢true (sym n ∙ ap (bytes_eq y) (same_eq x y t) ∙ bytes_eq_refl y))) (λ f. f)

pub list_any-distinct : (y : List ℕ) (xs : List (List ℕ)) → list_any (bytes_eq y) (distinct xs) ≡ list_any (bytes_eq y) xs
list_any-distinct y [] = refl
list_any-distinct y (x ∷ xs) = tested (bytes_eq y x)
    (λ t. or_left (bytes_eq y x) (list_any (bytes_eq y) (filter (λ z. not (same x z)) (distinct xs))) t ∙ sym (or_left (bytes_eq y x) (list_any (bytes_eq y) xs) t))
    (λ n. ap (λ b. bytes_eq y x || b) (any_unlike x y (distinct xs) (unlike x y n) ∙ list_any-distinct y xs))

-- the step of `distinct-push`, where ds are the names behind x, each once
push_behind : (x y : List ℕ) (ds : List (List ℕ)) (b : Bool) → list_any (bytes_eq y) ds ≡ b
    → x ∷ filter (λ z. not (same x z)) (cond b ds (ds ++ y ∷ []))
    ≡ cond (bytes_eq y x || list_any (bytes_eq y) (filter (λ z. not (same x z)) ds)) (x ∷ filter (λ z. not (same x z)) ds) (x ∷ filter (λ z. not (same x z)) ds ++ y ∷ [])
push_behind x y ds true h = tested (bytes_eq y x)
    (λ t. rw t refl)
    (λ n. let k = any_unlike x y ds (unlike x y n) in rw (n, k, h) refl)
push_behind x y ds false h = tested (bytes_eq y x)
    (λ t. let u : same x y ≡ true = ap (same x) ((bytes_eq-Decides y x).0 t) ∙ same_refl x in
    rw (t, filter-append (λ z. not (same x z)) ds (y ∷ []), u) (ap (λ ys. x ∷ ys) (append-nil (filter (λ z. not (same x z)) ds))))
    (λ n. let k = any_unlike x y ds (unlike x y n) in
    rw (n, k, h, filter-append (λ z. not (same x z)) ds (y ∷ []), unlike x y n) refl)

pub distinct-push : (xs : List (List ℕ)) (y : List ℕ) → distinct (xs ++ y ∷ []) ≡ insert_key bytes_eq (distinct xs) y
distinct-push [] y = refl
distinct-push (x ∷ xs) y =
    ap (λ ds. x ∷ filter (λ z. not (same x z)) ds) (distinct-push xs y)
    ∙ push_behind x y (distinct xs) (list_any (bytes_eq y) (distinct xs)) refl

pub length-distinct : (xs : List (List ℕ)) → length (distinct xs) ≤ length xs
length-distinct [] = omega arith
length-distinct (x ∷ xs) =
    let a = length-distinct xs in
    let b = length-filter (λ z. not (same x z)) (distinct xs) in
    let k = count_by-le-length (λ z. not (same x z)) (distinct xs) in
    omega (arith, a, b, k)

-- ---- one more name

abbrev places : List (List ℕ) → List (List ℕ) → List ℕ
places names kept = map (λ x. place_of x kept) names

-- the number of a name that may be new
place_of-insert : (y : List ℕ) (kept : List (List ℕ)) (b : Bool) → list_any (bytes_eq y) kept ≡ b → place_of y (cond b kept (kept ++ y ∷ [])) ≡ position_or_len (bytes_eq y) kept
place_of-insert y kept true h = place_of-position y kept
place_of-insert y kept false h = place_of-last y kept h ∙ sym (place_of-absent y kept h) ∙ place_of-position y kept

keeps_places : (kept : List (List ℕ)) (y x : List ℕ) (b : Bool) → Has x kept → place_of x (cond b kept (kept ++ y ∷ [])) ≡ place_of x kept
keeps_places kept y x true h = refl
keeps_places kept y x false h = place_of-append x kept (y ∷ []) h

has_distinct : (x : List ℕ) (xs : List (List ℕ)) → Has x xs → Has x (distinct xs)
has_distinct x xs h = list_any-distinct x xs ∙ h

more_numbers : (names : List (List ℕ)) (y : List ℕ) → map (λ x. place_of x (distinct (names ++ y ∷ []))) (names ++ y ∷ []) ≡ map (λ x. place_of x (distinct names)) names ++ position_or_len (bytes_eq y) (distinct names) ∷ []
more_numbers names y =
    let kept = distinct names in
    let e = distinct-push names y in
    let head = map_same (λ x. place_of x (insert_key bytes_eq (distinct names) y)) (λ x. place_of x (distinct names)) names (λ x h. keeps_places (distinct names) y x (list_any (bytes_eq y) (distinct names)) (has_distinct x names h)) in
    let last = place_of-insert y (distinct names) (list_any (bytes_eq y) (distinct names)) refl in
    rw (e, map-append (λ x. place_of x (insert_key bytes_eq (distinct names) y)) names (y ∷ []), head, last) refl

pub one_more_old : (names kept : List (List ℕ)) (numbers firsts : List ℕ) (y : List ℕ) → AreNumbered names kept numbers firsts → list_any (bytes_eq y) kept ≡ true
    → AreNumbered (names ++ y ∷ []) (insert_key bytes_eq kept y) (numbers ++ position_or_len (bytes_eq y) kept ∷ []) firsts
one_more_old names kept numbers firsts y s h =
    let there : list_any (bytes_eq y) (distinct names) ≡ true = rw s.once at h in
    let same_kept : distinct (names ++ y ∷ []) ≡ distinct names = distinct-push names y ∙ rw there refl in
    record {
      once = rw (s.once, distinct-push names y) refl;
      by_number = rw (s.by_number, s.once) (sym (more_numbers names y));
      by_place = rw (s.by_place, same_kept) (sym (map_same (λ x. place_of x (names ++ y ∷ [])) (λ x. place_of x names) (distinct names) (λ x k. place_of-append x names (y ∷ []) (sym (list_any-distinct x names) ∙ k))));
    }

pub one_more_new : (names kept : List (List ℕ)) (numbers firsts : List ℕ) (y : List ℕ) → AreNumbered names kept numbers firsts → list_any (bytes_eq y) kept ≡ false
    → AreNumbered (names ++ y ∷ []) (insert_key bytes_eq kept y) (numbers ++ position_or_len (bytes_eq y) kept ∷ []) (firsts ++ length names ∷ [])
one_more_new names kept numbers firsts y s h =
    let absent : list_any (bytes_eq y) (distinct names) ≡ false = rw s.once at h in
    let more_kept : distinct (names ++ y ∷ []) ≡ distinct names ++ y ∷ [] = distinct-push names y ∙ rw absent refl in
    let head = map_same (λ x. place_of x (names ++ y ∷ [])) (λ x. place_of x names) (distinct names) (λ x k. place_of-append x names (y ∷ []) (sym (list_any-distinct x names) ∙ k)) in
    let last = place_of-last y names (sym (list_any-distinct y names) ∙ absent) in
    record {
      once = rw (s.once, distinct-push names y) refl;
      by_number = rw (s.by_number, s.once) (sym (more_numbers names y));
      by_place = rw (s.by_place, more_kept, map-append (λ x. place_of x (names ++ y ∷ [])) (distinct names) (y ∷ []), head, last) refl;
    }

-- a name that is found is there, at that place
found_by : (b : Bool) (p n : ℕ) → cond b (Some p) None ≡ Some n → (b ≡ true) × (n ≡ p)
found_by true p n h = (refl, cc)
found_by false p n h = absurd (cc)

any_below : (y : List ℕ) (xs : List (List ℕ)) → position_or_len (bytes_eq y) xs < length xs → Has y xs
any_below y [] l = absurd (omega (arith, l))
any_below y (x ∷ xs) l = tested (bytes_eq y x)
    (λ t. or_left (bytes_eq y x) (list_any (bytes_eq y) xs) t)
    (λ f. let m : position_or_len (bytes_eq y) xs < length xs = let k = rw f at l in omega (arith, k) in or_right (bytes_eq y x) (list_any (bytes_eq y) xs) (any_below y xs m))

pub found_at : (y : List ℕ) (xs : List (List ℕ)) (n : ℕ) → position (bytes_eq y) xs ≡ Some n → Has y xs × (n ≡ position_or_len (bytes_eq y) xs)
found_at y xs n h =
    let e = found_by (nat_lt (position_or_len (bytes_eq y) xs) (length xs)) (position_or_len (bytes_eq y) xs) n h in
    (any_below y xs (ltb-true (position_or_len (bytes_eq y) xs) (length xs) e.0), e.1)

-- the names of the numbers are the names
pub names_of_numbers : (names kept : List (List ℕ)) (numbers firsts : List ℕ) → AreNumbered names kept numbers firsts → map (λ n. get_or kept n []) numbers ≡ names
names_of_numbers names kept numbers firsts s =
    rw (s.once, s.by_number, map-map (λ n. get_or (distinct names) n []) (λ x. place_of x (distinct names)) names)
    (map_same (λ x. get_or (distinct names) (place_of x (distinct names)) []) (λ x. x) names (λ x h. get_or-place_of x (distinct names) (has_distinct x names h)) ∙ map_id names)

-- one more name, of which it is seen whether it is new
pub one_more : (names kept kept' : List (List ℕ)) (numbers numbers' firsts firsts' : List ℕ) (y : List ℕ) → AreNumbered names kept numbers firsts
    → kept' ≡ insert_key bytes_eq kept y → numbers' ≡ numbers ++ position_or_len (bytes_eq y) kept ∷ [] → firsts' ≡ cond (list_any (bytes_eq y) kept) firsts (firsts ++ length names ∷ [])
    → AreNumbered (names ++ y ∷ []) kept' numbers' firsts'
one_more names kept kept' numbers numbers' firsts firsts' y s ks ns fs =
    tested (list_any (bytes_eq y) kept)
    (λ t. let same_firsts : firsts' ≡ firsts = fs ∙ rw t refl in rw (ks, ns, same_firsts) (one_more_old names kept numbers firsts y s t))
    (λ n. let more_firsts : firsts' ≡ firsts ++ length names ∷ [] = fs ∙ rw n refl in rw (ks, ns, more_firsts) (one_more_new names kept numbers firsts y s n))

position_or_len-le : {X : Type 0} (p : X → Bool) (xs : List X) → position_or_len p xs ≤ length xs
position_or_len-le p [] = omega arith
position_or_len-le p (x ∷ xs) = by_test (p x) (position_or_len p xs) (length xs) (position_or_len-le p xs)
  where
    by_test : (b : Bool) (n m : ℕ) → n ≤ m → cond (not b) (1 + n) 0 ≤ suc m
    by_test true n m h = omega arith
    by_test false n m h = omega (arith, h)

-- a number fits while there are few names
pub number_fits : (names kept : List (List ℕ)) (numbers firsts : List ℕ) (y : List ℕ) → AreNumbered names kept numbers firsts → position_or_len (bytes_eq y) kept ≤ length names
number_fits names kept numbers firsts y s =
    let a = position_or_len-le (bytes_eq y) kept in
    let b = length-distinct names in
    let c = ap length s.once in
    omega (arith, a, b, c)

-- the number of a name stands in its place, and the first place behind it
pub number_at_place : (names kept : List (List ℕ)) (numbers firsts : List ℕ) (i : ℕ) → AreNumbered names kept numbers firsts → i < length names → get_or numbers i 0 ≡ place_of (get_or names i []) (distinct names)
number_at_place names kept numbers firsts i s l = rw s.by_number (get_or-map (λ x. place_of x (distinct names)) names i [] 0 l)

pub number_below : (names : List (List ℕ)) (i : ℕ) → i < length names → place_of (get_or names i []) (distinct names) < length (distinct names)
number_below names i l = place_of-below (get_or names i []) (distinct names) (has_distinct (get_or names i []) names (has_at names i l))

pub first_at_number : (names kept : List (List ℕ)) (numbers firsts : List ℕ) (i : ℕ) → AreNumbered names kept numbers firsts → i < length names → get_or firsts (place_of (get_or names i []) (distinct names)) 0 ≡ place_of (get_or names i []) names
first_at_number names kept numbers firsts i s l =
    rw s.by_place
    (get_or-map (λ x. place_of x names) (distinct names) (place_of (get_or names i []) (distinct names)) [] 0 (number_below names i l)
    ∙ ap (λ x. place_of x names) (get_or-place_of (get_or names i []) (distinct names) (has_distinct (get_or names i []) names (has_at names i l))))

pub length-firsts : (names kept : List (List ℕ)) (numbers firsts : List ℕ) → AreNumbered names kept numbers firsts → length firsts ≡ length (distinct names)
length-firsts names kept numbers firsts s = rw s.by_place (length-map (distinct names) (λ x. place_of x names))

pub length-numbers : (names kept : List (List ℕ)) (numbers firsts : List ℕ) → AreNumbered names kept numbers firsts → length numbers ≡ length names
length-numbers names kept numbers firsts s = rw s.by_number (length-map names (λ x. place_of x (distinct names)))

-- so the view of what is kept is the names
pub closed : (names kept : List (List ℕ)) (numbers firsts : List ℕ) → AreNumbered names kept numbers firsts → AreNumbered (map (λ n. get_or kept n []) numbers) kept numbers firsts
closed names kept numbers firsts s = subst (λ (xs : List (List ℕ)). AreNumbered xs kept numbers firsts) (sym (names_of_numbers names kept numbers firsts s)) s

-- ---- numbers tell names apart

eq_of_true : (n m : ℕ) → n ≡ m → (n == m) ≡ true
eq_of_true n m e = grind (arith, nat_tests)

eq_of_other : (n m : ℕ) → (n ≡ m → ⊥) → (n == m) ≡ false
eq_of_other n m h = tested (n == m) (λ t. absurd (h (eqb-true n m t))) (λ f. f)

-- the number in a place is that of a name exactly where the name stands there
pub number_tells : (names : List (List ℕ)) (x : List ℕ) (i n : ℕ) → i < length names → position (bytes_eq x) (distinct names) ≡ Some n
    → (get_or (map (λ y. place_of y (distinct names)) names) i 0 == n) ≡ bytes_eq x (get_or names i [])
number_tells names x i n l found =
    let f = found_at x (distinct names) n found in
    let own : n ≡ place_of x (distinct names) = f.1 ∙ sym (place_of-position x (distinct names)) in
    let here = has_distinct (get_or names i []) names (has_at names i l) in
    let at : get_or (map (λ y. place_of y (distinct names)) names) i 0 ≡ place_of (get_or names i []) (distinct names) = get_or-map (λ y. place_of y (distinct names)) names i [] 0 l in
    tested (bytes_eq x (get_or names i []))
    (λ t. let e : x ≡ get_or names i [] = (bytes_eq-Decides x (get_or names i [])).0 t in
    eq_of_true _ n (at ∙ ap (λ y. place_of y (distinct names)) (sym e) ∙ sym own) ∙ sym t)
    (λ u. eq_of_other _ n (λ k.
    let same_place : place_of (get_or names i []) (distinct names) ≡ place_of x (distinct names) = sym at ∙ k ∙ own in
    let e : get_or names i [] ≡ x = sym (get_or-place_of (get_or names i []) (distinct names) here) ∙ ap (λ (m : ℕ). get_or (distinct names) m []) same_place ∙ get_or-place_of x (distinct names) f.0 in
    false≢true (sym u ∙ ap (bytes_eq x) e ∙ bytes_eq_refl x)) ∙ sym u)

-- a name that has no number stands nowhere
pub none_found : (names : List (List ℕ)) (x : List ℕ) (i : ℕ) → i < length names → position (bytes_eq x) (distinct names) ≡ None → bytes_eq x (get_or names i []) ≡ false
none_found names x i l none = tested (bytes_eq x (get_or names i []))
    (λ t. let e : get_or names i [] ≡ x = sym ((bytes_eq-Decides x (get_or names i [])).0 t) in
    let there : Has x (distinct names) = has_distinct x names (subst (λ y. Has y names) e (has_at names i l)) in
    let below : position_or_len (bytes_eq x) (distinct names) < length (distinct names) = let b = place_of-below x (distinct names) there in omega (arith, b, place_of-position x (distinct names)) in
    let test : nat_lt (position_or_len (bytes_eq x) (distinct names)) (length (distinct names)) ≡ true = grind (arith, nat_tests) in
    absurd (none_some (position_or_len (bytes_eq x) (distinct names)) (rw test at none)))
    (λ f. f)
  where
    none_some : (m : ℕ) → Some m ≡ None → ⊥
    none_some m h = cc

-- ---- numbers of leaves

-- no name stands again behind itself
abbrev Once : List (List ℕ) → Type 0
Once [] = Unit {0}
Once (x ∷ xs) = (list_any (bytes_eq x) xs ≡ false) × Once xs

none_filtered : (p q : List ℕ → Bool) (xs : List (List ℕ)) → list_any p xs ≡ false → list_any p (filter q xs) ≡ false
none_filtered p q [] h = refl
none_filtered p q (x ∷ xs) h =
    let rest : list_any p xs ≡ false = tested (list_any p xs) (λ t. absurd (false≢true (sym h ∙ or_right (p x) (list_any p xs) t))) (λ f. f) in
    let first : p x ≡ false = tested (p x) (λ t. absurd (false≢true (sym h ∙ or_left (p x) (list_any p xs) t))) (λ f. f) in
    tested (q x) (λ t. rw (t, first) (none_filtered p q xs rest)) (λ f. rw f (none_filtered p q xs rest))

once_filtered : (q : List ℕ → Bool) (xs : List (List ℕ)) → Once xs → Once (filter q xs)
once_filtered q [] h = tt
once_filtered q (x ∷ xs) h = tested (q x) (λ t. rw t (none_filtered (bytes_eq x) q xs h.0, once_filtered q xs h.1)) (λ f. rw f (once_filtered q xs h.1))

none_alike : (x : List ℕ) (zs : List (List ℕ)) → list_any (bytes_eq x) (filter (λ z. not (same x z)) zs) ≡ false
none_alike x [] = refl
none_alike x (z ∷ zs) = tested (same x z) (λ t. rw t (none_alike x zs)) (λ f. let n : bytes_eq x z ≡ false = sym (same-bytes_eq x z) ∙ f in rw (f, n) (none_alike x zs))

once_distinct : (xs : List (List ℕ)) → Once (distinct xs)
once_distinct [] = tt
once_distinct (x ∷ xs) = (none_alike x (distinct xs), once_filtered (λ z. not (same x z)) (distinct xs) (once_distinct xs))

none_dropped : (x : List ℕ) (zs : List (List ℕ)) → list_any (bytes_eq x) zs ≡ false → filter (λ z. not (same x z)) zs ≡ zs
none_dropped x [] h = refl
none_dropped x (z ∷ zs) h =
    let rest : list_any (bytes_eq x) zs ≡ false = tested (list_any (bytes_eq x) zs) (λ t. absurd (false≢true (sym h ∙ or_right (bytes_eq x z) (list_any (bytes_eq x) zs) t))) (λ f. f) in
    let other : same x z ≡ false = same-bytes_eq x z ∙ tested (bytes_eq x z) (λ t. absurd (false≢true (sym h ∙ or_left (bytes_eq x z) (list_any (bytes_eq x) zs) t))) (λ f. f) in
    rw other (ap (λ (ys : List (List ℕ)). z ∷ ys) (none_dropped x zs rest))

once_own : (xs : List (List ℕ)) → Once xs → AreDistinct xs
once_own [] h = refl
once_own (x ∷ xs) h = ap (λ (ys : List (List ℕ)). x ∷ filter (λ y. not (same x y)) ys) (once_own xs h.1) ∙ ap (λ (ys : List (List ℕ)). x ∷ ys) (none_dropped x xs h.0)

-- the first of each are distinct
pub distinct_firsts : (xs : List (List ℕ)) → AreDistinct (distinct xs)
distinct_firsts xs = once_own (distinct xs) (once_distinct xs)

own_place : (xs : List (List ℕ)) → Once xs → (i : ℕ) → i < length xs → place_of (get_or xs i []) xs ≡ i
own_place [] h i l = absurd (omega (arith, l))
own_place (x ∷ xs) h zero l = rw (same_refl x) refl
own_place (x ∷ xs) h (suc i) l =
    let other : same (get_or xs i []) x ≡ false = tested (same (get_or xs i []) x)
    (λ t. absurd (false≢true (sym h.0 ∙ subst (λ y. Has y xs) (same_eq (get_or xs i []) x t) (has_at xs i (omega (arith, l))))))
    (λ f. f) in
    rw other (ap suc (own_place xs h.1 i (omega (arith, l))))

-- a name that stands once stands at its own place
pub place_of-own : (xs : List (List ℕ)) → AreDistinct xs → (i : ℕ) → i < length xs → place_of (get_or xs i []) xs ≡ i
place_of-own xs h i l = own_place xs (subst Once h (once_distinct xs)) i l

-- ---- the levels of a dimension

length-count_from : (a n : ℕ) → length (count_from a n) ≡ n
length-count_from a zero = refl
length-count_from a (suc n) = ap suc (length-count_from (suc a) n)

get_or-count_from : (a n i : ℕ) → i < n → get_or (count_from a n) i 0 ≡ a + i
get_or-count_from a zero i l = absurd (omega (arith, l))
get_or-count_from a (suc n) zero l = omega arith
get_or-count_from a (suc n) (suc i) l = let e = get_or-count_from (suc a) n i (omega (arith, l)) in omega (arith, e)

pub count_from-more : (a n : ℕ) → count_from a (n + 1) ≡ count_from a n ++ (a + n) ∷ []
count_from-more a n = rw add-one (count_from-suc a n)
  where
    count_from-suc : (a n : ℕ) → count_from a (suc n) ≡ count_from a n ++ (a + n) ∷ []
    count_from-suc a zero = ap (λ (k : ℕ). k ∷ []) (omega arith)
    count_from-suc a (suc n) = ap (λ (ks : List ℕ). a ∷ ks) (count_from-suc (suc a) n ∙ ap (λ (k : ℕ). count_from (suc a) n ++ k ∷ []) (omega arith))

nothing_more : (l : ℕ) → 0 + l ≡ l
nothing_more l = omega arith

pub length-ancestor_names : (d : NamedDimension) → length (ancestor_names d) ≡ length d.levels
length-ancestor_names d = length-map (count_from 0 (length d.levels)) (names_at (plain d)) ∙ length-count_from 0 (length d.levels)

pub get_or-ancestor_names : (d : NamedDimension) (l : ℕ) (e : List (List ℕ)) → l < length d.levels → get_or (ancestor_names d) l e ≡ names_at (plain d) l
get_or-ancestor_names d l e h =
    let long = length-count_from 0 (length d.levels) in
    get_or-map (names_at (plain d)) (count_from 0 (length d.levels)) l 0 e (omega (arith, long, h))
    ∙ ap (names_at (plain d)) (get_or-count_from 0 (length d.levels) l h ∙ nothing_more l)

pub length-names_at : (d : NamedDimension) (l : ℕ) → length (names_at (plain d) l) ≡ length d.paths
length-names_at d l = length-map d.paths (λ path. get_or path l [])

-- what is read of the members of a level
pub members_read : (d : NamedDimension) (kept : List (List (List ℕ))) (l : ℕ) (names : List (List ℕ)) → kept ≡ ancestor_names d → l < length d.levels → names ≡ get_or kept l names → names ≡ names_at (plain d) l
members_read d kept l names e h r = r ∙ ap (λ k. get_or k l names) e ∙ get_or-ancestor_names d l names h

pub up-named : (d : NamedDimension) (l x : ℕ) → AreDistinct (names_at (plain d) 0) → l < length d.levels → x < length d.paths → up (plain d) l x ≡ place_of (get_or (names_at (plain d) l) x []) (distinct (names_at (plain d) l))
unfolding up
up-named d zero x once h k =
    let long = length-names_at d 0 in
    rw (lt-ltb zero (length d.levels) h)
    (sym (ap (place_of (get_or (names_at (plain d) 0) x [])) once ∙ place_of-own (names_at (plain d) 0) once x (omega (arith, long, k))))
up-named d (suc l) x once h k = rw (lt-ltb (suc l) (length d.levels) h) refl

pub up-all : (d : NamedDimension) (l x : ℕ) → length d.levels ≤ l → up (plain d) l x ≡ 0
unfolding up
up-all d l x h = rw (le-ltb l (length d.levels) h) refl

-- two places have equal numbers exactly where they have equal names
pub same_number : (xs : List (List ℕ)) (i j : ℕ) → i < length xs → j < length xs → eqb (place_of (get_or xs i []) (distinct xs)) (place_of (get_or xs j []) (distinct xs)) ≡ bytes_eq (get_or xs i []) (get_or xs j [])
same_number xs i j a b =
    tested (bytes_eq (get_or xs i []) (get_or xs j []))
    (λ t. let e = (bytes_eq-Decides (get_or xs i []) (get_or xs j [])).0 t in eq-eqb (place_of (get_or xs i []) (distinct xs)) (place_of (get_or xs j []) (distinct xs)) (ap (λ z. place_of z (distinct xs)) e) ∙ sym t)
    (λ f. tested (eqb (place_of (get_or xs i []) (distinct xs)) (place_of (get_or xs j []) (distinct xs)))
    (λ t. let e = eqb-true (place_of (get_or xs i []) (distinct xs)) (place_of (get_or xs j []) (distinct xs)) t in
    let names : get_or xs i [] ≡ get_or xs j [] = sym (get_or-place_of (get_or xs i []) (distinct xs) (has_distinct (get_or xs i []) xs (has_at xs i a))) ∙ ap (λ (n : ℕ). get_or (distinct xs) n []) e ∙ get_or-place_of (get_or xs j []) (distinct xs) (has_distinct (get_or xs j []) xs (has_at xs j b)) in
    absurd (false≢true (sym f ∙ (bytes_eq-Decides (get_or xs i []) (get_or xs j [])).1 names)))
    (λ g. g ∙ sym f))

-- names behind others, of which each is new behind all before it
pub distinct_behind : (xs ys : List (List ℕ)) → AreDistinct xs → ((k : ℕ) → k < length ys → list_any (bytes_eq (get_or ys k [])) (xs ++ take k ys) ≡ false) → AreDistinct (xs ++ ys)
distinct_behind xs ys once h = subst (λ (zs : List (List ℕ)). AreDistinct (xs ++ zs)) (take_all (length ys) ys (omega arith)) (up_to (length ys) (omega arith))
  where
    up_to : (k : ℕ) → k ≤ length ys → AreDistinct (xs ++ take k ys)
    up_to zero l = subst AreDistinct (sym (append-nil xs)) once
    up_to (suc k) l =
        let more : xs ++ take (suc k) ys ≡ (xs ++ take k ys) ++ get_or ys k [] ∷ [] = ap (λ (zs : List (List ℕ)). xs ++ zs) (take-suc ys k [] (omega (arith, l))) ∙ sym (append_assoc xs (take k ys) (get_or ys k [] ∷ [])) in
        let before = up_to k (omega (arith, l)) in
        ap distinct more ∙ distinct-push (xs ++ take k ys) (get_or ys k []) ∙ ap (λ kept. insert_key bytes_eq kept (get_or ys k [])) before ∙ rw (h k (omega (arith, l))) (sym more)

-- names of which each is new behind the earlier ones
pub distinct_by_turns : (xs : List (List ℕ)) → ((k : ℕ) → k < length xs → list_any (bytes_eq (get_or xs k [])) (take k xs) ≡ false) → AreDistinct xs
distinct_by_turns xs h = distinct_behind [] xs refl h

-- the same in the words of `push`
pub pushed : (names kept kept' : List (List ℕ)) (numbers numbers' firsts firsts' : List ℕ) (y : List ℕ) (place number : ℕ) → AreNumbered names kept numbers firsts → place ≡ length numbers
    → kept' ≡ insert_key bytes_eq kept y → number ≡ position_or_len (bytes_eq y) kept → numbers' ≡ numbers ++ number ∷ [] → firsts' ≡ cond (list_any (bytes_eq y) kept) firsts (firsts ++ place ∷ [])
    → AreNumbered (names ++ y ∷ []) kept' numbers' firsts'
pushed names kept kept' numbers numbers' firsts firsts' y place number s at ks is ns fs =
    one_more names kept kept' numbers numbers' firsts firsts' y s ks
    (ns ∙ ap (λ (n : ℕ). numbers ++ n ∷ []) is)
    (fs ∙ ap (λ (n : ℕ). cond (list_any (bytes_eq y) kept) firsts (firsts ++ n ∷ [])) (at ∙ length-numbers names kept numbers firsts s))
