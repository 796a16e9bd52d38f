-- What a sound scan has seen, and what is looked at beside it, shows that a fact file is accepted.
use Rattle.std.proofs.Common.{◌≡◌, ℕ, zero, suc, ◌+◌, ◌*◌, ◌<◌, ◌≤◌, inl, inr, Bool, true, false, cond, ◌&&◌, List, [], ◌∷◌, ◌++◌, length, map, flat_map, zip, count_by, get_or, Option, Some, None, unwrap_or, Result, Ok, Err, ℤ, refl, sym, ap, ap₂, subst, ◌∙◌, arith, ltb, ◌==◌, length-append}
use Rattle.std.specs.Result.{is_ok}
use Rattle.std.specs.List.{fold, list_all, AllByRecursion, position_or_len}
use Rattle.std.specs.Str.{bytes_eq}
use Rattle.std.proofs.Math.ListN.{get_or-eq_default}
use Rattle.std.proofs.Math.Seq.{get_or-append_seam}
use Rattle.std.proofs.lemmas.Bool.Decides.{nat_tests}
use Rattle.std.proofs.lemmas.Bool.{false≢true, lt-ltb, le-ltb, ltb-true, ltb-false, eqb-true, and_parts}
use Rattle.std.proofs.lemmas.List.{append_assoc, length-map, get_or-map}
use Rattle.std.proofs.lemmas.List.Quantifiers.{position-Some}
use Rattle.std.proofs.lemmas.List.Sums.{sum_by-cons}
use Rattle.std.proofs.Math.Nat.{suc-mul, zero-mul, mul_assoc, mul-one, one-mul}
use Rattle.std.proofs.lemmas.Slice.Eq.{bytes_eq-Decides}
use Rattle.csv.specs.Reading.{strip_bom}
use Rattle.cube_model.specs.Checks.{in_turn}
use Rattle.cube_model.specs.Cubes.{same, before, in_order, distinct, names_at, count_from, IsIn, IsIncreasing, IsPoint}
use Rattle.cube_model.specs.Dims.{Dims, NamedDimension, NamedMeasure, IsDims, IsDimension, plain, members, found, column_names, dimension_at, measure_at, no_dimension, no_measure}
use Rattle.cube_model.specs.Names.{begins_with_mark, is_name}
use Rattle.cube_model.proofs.Boxes.{all_points, all_points_has, spread}
use Rattle.cube_model.proofs.Members.{tested, same_eq, same_refl, IsIn-in_order, IsIn-map, map_has, append_left}
use Rattle.cube_model.proofs.Orders.{in_order_increasing}
use Rattle.cube_text.specs.Units.{units_of}
use Rattle.cube_text.specs.declared.units.UnitFault.{UnitFault}
use Rattle.cube_facts.specs.FactFile.{field_in, leaf_of, leaf_in, leaves_of, fact_of, column_faults, record_faults, own_faults, field_faults, most_points, points_in, facts_in, facts_of, filled, shape_of, cube_of}
use Rattle.cube_facts.specs.Records.{ok_or_zero}
use Rattle.cube_facts.proofs.Adding.{count_long}
use Rattle.cube_facts.proofs.Filled.{start_unmarked}
use Rattle.cube_facts.proofs.Recent.{found_there}
use Rattle.cube_facts.proofs.Recorded.{no_faults, no_own_faults}
use Rattle.cube_draft.specs.Drafts.{field_of, path_of, written_decimals, IsMade, AreTrue, AreFine, IsFilled}
use Rattle.cube_draft.specs.Kept.{Shown, AreNumbers, IsMarked, IsMeasured, AreFew, HasFewPoints, leaf_points, kept_path}
use Rattle.cube_draft.proofs.Steps.{same_path}

-- ---- keys in order are no more than those that they are among

-- a list without one of its items
abbrev Without : List ℕ → List (List ℕ) → Type 0
Without a ys = (zs : List (List ℕ)) × (length ys ≡ suc (length zs)) × ((z : List ℕ) → IsIn z ys → same a z ≡ false → IsIn z zs)

without : (a : List ℕ) (ys : List (List ℕ)) → IsIn a ys → Without a ys
without a [] h = absurd h
without a (y ∷ ys) (inl e) = (ys, refl, λ z k n. rest z k n)
  where
    rest : (z : List ℕ) → IsIn z (y ∷ ys) → same a z ≡ false → IsIn z ys
    rest z (inl f) n = absurd (false≢true (sym n ∙ ap (same a) (sym (sym e ∙ f)) ∙ same_refl a))
    rest z (inr k) n = k
without a (y ∷ ys) (inr h) = let w = without a ys h in (y ∷ w.0, ap suc w.1, λ z k n. rest w z k n)
  where
    rest : (w : Without a ys) → (z : List ℕ) → IsIn z (y ∷ ys) → same a z ≡ false → IsIn z (y ∷ w.0)
    rest w z (inl f) n = inl f
    rest w z (inr k) n = inr (w.2 z k n)

-- a key does not come before itself
not_before : (a : List ℕ) → before a a ≡ false
not_before [] = refl
not_before (x ∷ xs) = grind (arith, nat_tests, not_before xs)

pub all_after : (p : List ℕ → Bool) (z : List ℕ) (xs : List (List ℕ)) → list_all p xs ≡ true → IsIn z xs → p z ≡ true
all_after p z [] h k = absurd k
all_after p z (x ∷ xs) h (inl e) = ap p (sym e) ∙ (and_parts (p x) (list_all p xs) h).0
all_after p z (x ∷ xs) h (inr k) = all_after p z xs (and_parts (p x) (list_all p xs) h).1 k

differs : (a z : List ℕ) → before a z ≡ true → same a z ≡ false
differs a z b = tested (same a z) (λ t. absurd (false≢true (sym (not_before a) ∙ ap (before a) (same_eq a z t) ∙ b))) (λ f. f)

pub no_more : (xs ys : List (List ℕ)) → IsIncreasing xs → ((z : List ℕ) → IsIn z xs → IsIn z ys) → length xs ≤ length ys
no_more [] ys i h = omega arith
no_more (x ∷ xs) ys i h =
    let w = without x ys (h x (inl refl)) in
    let rest = no_more xs w.0 i.1 (λ z k. w.2 z (h z (inr k)) (differs x z (all_after (before x) z xs i.0 k))) in
    let long = w.1 in
    omega (arith, rest, long)

-- ---- columns that stand once

-- the tests of some columns that they stand once
abbrev pub AreOnce : List (List ℕ) → {X : Type 0} → (X → List ℕ) → List X → Type 0
AreOnce header f xs = list_all (λ x. count_by (bytes_eq (f x)) header == 1) xs ≡ true

one_column : (header : List (List ℕ)) (name : List ℕ) → (count_by (bytes_eq name) header == 1) ≡ true → column_faults header name ≡ []
one_column header name t = let one : count_by (bytes_eq name) header ≡ 1 = eqb-true (count_by (bytes_eq name) header) 1 t in rw one refl

once_none : {X : Type 0} (header : List (List ℕ)) (f : X → List ℕ) (xs : List X) (names : List (List ℕ)) → AreOnce header f xs → flat_map (column_faults header) names ≡ [] → flat_map (column_faults header) (map f xs ++ names) ≡ []
once_none header f [] names h more = more
once_none header f (x ∷ xs) names h more =
    let parts = and_parts (count_by (bytes_eq (f x)) header == 1) (list_all (λ x. count_by (bytes_eq (f x)) header == 1) xs) h in
    rw (one_column header (f x) parts.0) (once_none header f xs names parts.1 more)

once_all : {X : Type 0} (header : List (List ℕ)) (f : X → List ℕ) (xs : List X) → AreOnce header f xs → flat_map (column_faults header) (map f xs) ≡ []
once_all header f [] h = refl
once_all header f (x ∷ xs) h =
    let parts = and_parts (count_by (bytes_eq (f x)) header == 1) (list_all (λ x. count_by (bytes_eq (f x)) header == 1) xs) h in
    rw (one_column header (f x) parts.0) (once_all header f xs parts.1)

once_at : {X : Type 0} (header : List (List ℕ)) (f : X → List ℕ) (xs : List X) (i : ℕ) (d : X) → AreOnce header f xs → i < length xs → count_by (bytes_eq (f (get_or xs i d))) header ≡ 1
once_at header f [] i d h l = absurd (omega (arith, l))
once_at header f (x ∷ xs) zero d h l = eqb-true (count_by (bytes_eq (f x)) header) 1 (and_parts (count_by (bytes_eq (f x)) header == 1) (list_all (λ x. count_by (bytes_eq (f x)) header == 1) xs) h).0
once_at header f (x ∷ xs) (suc i) d h l = once_at header f xs i d (and_parts (count_by (bytes_eq (f x)) header == 1) (list_all (λ x. count_by (bytes_eq (f x)) header == 1) xs) h).1 (omega (arith, l))

count_cons : (x h : List ℕ) (hs : List (List ℕ)) → count_by (bytes_eq x) (h ∷ hs) ≡ cond (bytes_eq x h) 1 0 + count_by (bytes_eq x) hs
count_cons x h hs = sum_by-cons (λ y. cond (bytes_eq x y) 1 0) h hs

is_same : (x h : List ℕ) → h ≡ x → bytes_eq x h ≡ true
is_same x h e = (bytes_eq-Decides x h).1 (sym e)

counted : (x : List ℕ) (hs : List (List ℕ)) (q : ℕ) → q < length hs → get_or hs q [] ≡ x → 1 ≤ count_by (bytes_eq x) hs
counted x [] q l is = absurd (omega (arith, l))
counted x (h ∷ hs) zero l is =
    let one : ℕ = 1 in let here : cond (bytes_eq x h) 1 0 ≡ one = rw (is_same x h is) refl in
    let all = count_cons x h hs in
    omega (arith, here, all)
counted x (h ∷ hs) (suc q) l is =
    let rest = counted x hs q (omega (arith, l)) is in
    let all = count_cons x h hs in
    omega (arith, rest, all)

only_place : (x : List ℕ) (hs : List (List ℕ)) (q : ℕ) → count_by (bytes_eq x) hs ≤ 1 → q < length hs → get_or hs q [] ≡ x → position_or_len (bytes_eq x) hs ≡ q
only_place x [] q few l is = absurd (omega (arith, l))
only_place x (h ∷ hs) zero few l is = rw (is_same x h is) refl
only_place x (h ∷ hs) (suc q) few l is = tested (bytes_eq x h)
    (λ t. (
    let one : ℕ = 1 in let here : cond (bytes_eq x h) 1 0 ≡ one = rw t refl in
    let rest = counted x hs q (omega (arith, l)) is in
    let all = count_cons x h hs in
    absurd (omega (arith, here, rest, all, few))))
    (λ n. (
    let all = count_cons x h hs in
    let rest = only_place x hs q (omega (arith, all, few)) (omega (arith, l)) is in
    rw n (omega (arith, rest))))

-- the one place of a column is where it is found
pub only : (x : List ℕ) (hs : List (List ℕ)) (q : ℕ) → count_by (bytes_eq x) hs ≡ 1 → q < length hs → get_or hs q [] ≡ x → found x hs ≡ Some q
only x hs q once l is =
    let at : position_or_len (bytes_eq x) hs ≡ q = only_place x hs q (omega (arith, once)) l is in
    let test : ltb (position_or_len (bytes_eq x) hs) (length hs) ≡ true = lt-ltb (position_or_len (bytes_eq x) hs) (length hs) (omega (arith, at, l)) in
    rw test (ap (λ (p : ℕ). Some p) at)

-- ---- a record

none_holds : (b : Bool) → ((((b && false) && true) && true) && true) ≡ true → ⊥
none_holds true h = false≢true h
none_holds false h = false≢true h

-- a name is not empty
named : (name : List ℕ) → is_name name ≡ true → name ≡ [] → ⊥
unfolding is_name
named name h e = none_holds _ (rw e at h)

-- the place of a name that is not empty is within the names
within_names : (header : List (List ℕ)) (q : ℕ) (name : List ℕ) → is_name name ≡ true → name ≡ get_or header q [] → q < length header
within_names header q name h is = tested (ltb q (length header))
    (λ t. ltb-true q (length header) t)
    (λ f. let past : length header ≤ q = let n = ltb-false q (length header) f in omega (arith, n) in absurd (named name h (is ∙ get_or-eq_default header [] past)))

-- the leaf that a record names
pub leaf_there : (header : List (List ℕ)) (rows : List (List (List ℕ))) (d : NamedDimension) (k : ℕ) → IsMade header rows d → IsDimension d → count_by (bytes_eq d.column) header ≡ 1 → k < length rows
    → (leaf : ℕ) × (leaf_of d (field_in header (get_or rows k []) d.column) ≡ Some leaf)
leaf_there header rows d k made rules once l =
    let x = get_or rows k [] in
    let q = get_or made.places 0 0 in
    let among = made.paths k l in
    let long : length d.levels ≡ length made.places = ap length made.levels ∙ length-map made.places _ in
    let some : 0 < length made.places = let has = rules.has_levels in omega (arith, has, long) in
    let at : found d.column header ≡ Some q = only d.column header q once (within_names header q d.column rules.column made.column) (sym made.column) in
    let names = names_at (plain d) 0 in
    let field : field_in header x d.column ≡ field_of q x = ap (λ (o : Option ℕ). field_of (unwrap_or o 0) x) at in
    let name : get_or names among.leaf [] ≡ field_of q x =
    get_or-map (λ (path : List (List ℕ)). get_or path 0 []) d.paths among.leaf [] [] among.within
    ∙ ap (λ (path : List (List ℕ)). get_or path 0 []) among.is ∙ get_or-map (λ (place : ℕ). field_of place x) made.places 0 0 [] some in
    let within : among.leaf < length (distinct names) = let n = among.within in let m = length-map d.paths (λ (path : List (List ℕ)). get_or path 0 []) in let e = ap length rules.distinct_leaves in omega (arith, n, m, e) in
    (among.leaf, found_there d among.leaf (field_in header x d.column) rules within (ap (λ (xs : List (List ℕ)). get_or xs among.leaf []) rules.distinct_leaves ∙ name ∙ sym field))

ok_value : (r : Result ℤ UnitFault) → is_ok r ≡ true → r ≡ Ok (ok_or_zero r)
ok_value (Ok v) h = refl
ok_value (Err e) h = absurd (false≢true h)

-- the number that a record says
pub number_there : (header : List (List ℕ)) (members : List Bool) (decimals : List ℕ) (x : List (List ℕ)) (m : NamedMeasure) → IsMeasured header members decimals m → AreNumbers members decimals x
    → is_ok (units_of m.decimals (field_in header x m.column)) ≡ true
number_there header members decimals x m is numbers =
    let here = numbers is.place is.within is.unmarked in
    ap (λ (o : Option ℕ). is_ok (units_of m.decimals (field_of (unwrap_or o 0) x))) is.stands ∙ ap (λ (n : ℕ). is_ok (units_of n (field_of is.place x))) (sym is.same) ∙ here.0

-- it is written with no more decimals than the measure has
pub written_there : (header : List (List ℕ)) (members : List Bool) (decimals : List ℕ) (x : List (List ℕ)) (m : NamedMeasure) → IsMeasured header members decimals m → AreNumbers members decimals x
    → written_decimals (field_in header x m.column) ≤ m.decimals
written_there header members decimals x m is numbers =
    let here = numbers is.place is.within is.unmarked in
    subst (λ (o : Option ℕ). written_decimals (field_of (unwrap_or o 0) x) ≤ m.decimals) (sym is.stands) (subst (λ (n : ℕ). written_decimals (field_of is.place x) ≤ n) is.same here.1)

-- so all measures have the decimals that are written
pub are_fine : (s : Dims) (bytes : List ℕ) (header : List (List ℕ)) (members : List Bool) (fields : List (List (List ℕ))) (many : ℕ) (decimals : List ℕ)
    → Shown bytes header members fields many decimals → ((k : ℕ) → k < length s.measures → IsMeasured header members decimals (measure_at s k)) → AreFine bytes s
are_fine s bytes header members fields many decimals shown measured = record {
  header = header;
  rows = shown.holds.rows;
  records = shown.holds.records;
  each = λ m k lm lk. written_there header members decimals (get_or shown.holds.rows k []) (measure_at s m) (measured m lm) (shown.seen.numbers k lk);
}

all_some : {X : Type 0} (f : X → Option ℕ) (xs : List X) (d : X) → ((k : ℕ) → k < length xs → (l : ℕ) × (f (get_or xs k d) ≡ Some l)) → map f xs ≡ map Some (map (λ x. unwrap_or (f x) 0) xs)
all_some f [] d h = refl
all_some f (x ∷ xs) d h =
    let here = h 0 (omega arith) in
    ap₂ (λ (o : Option ℕ) (os : List (Option ℕ)). o ∷ os) (here.1 ∙ ap (λ (o : Option ℕ). Some (unwrap_or o 0)) (sym here.1)) (all_some f xs d (λ k l. h (suc k) (omega (arith, l))))

all_ok : {X : Type 0} (f : X → Result ℤ UnitFault) (xs : List X) (d : X) → ((k : ℕ) → k < length xs → is_ok (f (get_or xs k d)) ≡ true) → map f xs ≡ map Ok (map (λ x. ok_or_zero (f x)) xs)
all_ok f [] d h = refl
all_ok f (x ∷ xs) d h = ap₂ (λ (r : Result ℤ UnitFault) (rs : List (Result ℤ UnitFault)). r ∷ rs) (ok_value (f x) (h 0 (omega arith))) (all_ok f xs d (λ k l. h (suc k) (omega (arith, l))))

dimension_rules : (ds : List NamedDimension) (i : ℕ) → AllByRecursion IsDimension ds → i < length ds → IsDimension (get_or ds i no_dimension)
dimension_rules [] i h l = absurd (omega (arith, l))
dimension_rules (d ∷ ds) zero h l = h.0
dimension_rules (d ∷ ds) (suc i) h l = dimension_rules ds i h.1 (omega (arith, l))

-- ---- few points

-- the leaves of a record, by what stands in their columns
leaves_at : List NamedDimension → List (List ℕ) → List ℕ
leaves_at [] path = []
leaves_at (d ∷ ds) [] = []
leaves_at (d ∷ ds) (x ∷ path) = unwrap_or (leaf_of d x) 0 ∷ leaves_at ds path

-- the places of the columns of the leaves
abbrev pub leaf_columns : List (List ℕ) → List NamedDimension → List ℕ
leaf_columns header ds = map (λ d. unwrap_or (found d.column header) 0) ds

leaves_by_path : (header x : List (List ℕ)) (ds : List NamedDimension) → map (leaf_in header x) ds ≡ leaves_at ds (path_of (leaf_columns header ds) x)
unfolding leaves_at
leaves_by_path header x [] = refl
leaves_by_path header x (d ∷ ds) = ap (λ (ls : List ℕ). leaf_in header x d ∷ ls) (leaves_by_path header x ds)

at_index : {X : Type 0} (x : X) (xs : List X) (d : X) → IsIn x xs → (i : ℕ) × (i < length xs) × (get_or xs i d ≡ x)
at_index x [] d h = absurd h
at_index x (y ∷ ys) d (inl e) = (0, omega arith, e)
at_index x (y ∷ ys) d (inr h) = let r = at_index x ys d h in (suc r.0, let l = r.1 in omega (arith, l), r.2)

index_in : {X : Type 0} (xs : List X) (i : ℕ) (d : X) → i < length xs → IsIn (get_or xs i d) xs
index_in [] i d l = absurd (omega (arith, l))
index_in (x ∷ xs) zero d l = inl refl
index_in (x ∷ xs) (suc i) d l = inr (index_in xs i d (omega (arith, l)))

-- a name that is found has a number among the names, and no name has the number of the first
number_below : (x : List ℕ) (names : List (List ℕ)) (n : ℕ) → 1 ≤ n → length names ≡ n → unwrap_or (found x names) 0 < n
number_below x names n some long = go (found x names) refl
  where
    go : (o : Option ℕ) → found x names ≡ o → unwrap_or o 0 < n
    go None e = omega (arith, some)
    go (Some k) e = let below = (position-Some (bytes_eq x) names k [] e).0 in omega (arith, below, long)

-- the leaves of a record are a point
leaves_are_points : (ds : List NamedDimension) → AllByRecursion IsDimension ds → (header fields : List (List ℕ)) → IsPoint (map plain ds) (map (leaf_in header fields) ds)
leaves_are_points [] h header fields = tt
leaves_are_points (d ∷ ds) h header fields = (number_below (field_in header fields d.column) (members d 0) (length d.paths) (h.0).has_leaves (leaves_long d h.0), leaves_are_points ds h.1 header fields)
  where
    leaves_long : (d : NamedDimension) → IsDimension d → length (members d 0) ≡ length d.paths
    leaves_long d k = ap length k.distinct_leaves ∙ length-map d.paths (λ path. get_or path 0 [])

-- how many combinations there are
length_spread : (xs : List ℕ) (ys : List (List ℕ)) → length (flat_map (λ x. map (λ y. x ∷ y) ys) xs) ≡ length xs * length ys
length_spread [] ys = sym (zero-mul (length ys))
length_spread (x ∷ xs) ys =
    length-append (map (λ y. x ∷ y) ys) (flat_map (λ x. map (λ y. x ∷ y) ys) xs) ∙ ap₂ (λ (n m : ℕ). n + m) (length-map ys (λ y. x ∷ y)) (length_spread xs ys)
    ∙ (let m = suc-mul (length xs) (length ys) in omega (arith, m))

points_from : (many : ℕ) (ds : List NamedDimension) → fold (λ n d. n * length d.paths) many ds ≡ many * length (all_points (map plain ds))
unfolding all_points spread
points_from many [] = sym (mul-one many)
points_from many (d ∷ ds) =
    points_from (many * length d.paths) ds ∙ mul_assoc many (length d.paths) (length (all_points (map plain ds)))
    ∙ ap (λ (n : ℕ). many * n) (sym (length_spread (count_from 0 (length d.paths)) (all_points (map plain ds)) ∙ ap (λ (n : ℕ). n * length (all_points (map plain ds))) (count_long 0 (length d.paths))))

points_many : (ds : List NamedDimension) → leaf_points ds ≡ length (all_points (map plain ds))
points_many ds = points_from 1 ds ∙ one-mul (length (all_points (map plain ds)))

module _ (s : Dims) (header : List (List ℕ)) (members : List Bool) (fields : List (List (List ℕ))) (rows : List (List (List ℕ)))
    (held : (k : ℕ) → k < length members → IsMarked members k → get_or fields k [] ≡ map (field_of k) rows)
    (places : List ℕ) (columns : places ≡ leaf_columns header s.dimensions)
    (marked : (k : ℕ) → k < length places → (get_or places k 0 < length members) × IsMarked members (get_or places k 0))
  where
    -- the points that were met first
    abbrev first_points : List ℕ → List (List ℕ)
    first_points firsts = map (λ (r : ℕ). leaves_at s.dimensions (kept_path fields places r)) firsts

    row_point : (points : AreFew fields places (length rows)) (i : ℕ) → i < length rows → IsIn (leaves_of s header (get_or rows i [])) (first_points points.firsts)
    row_point points i l =
        let alike = points.each i l in
        let is : leaves_of s header (get_or rows i []) ≡ leaves_at s.dimensions (kept_path fields places (get_or points.firsts alike.number 0)) =
        leaves_by_path header (get_or rows i []) s.dimensions ∙ ap (λ (ps : List ℕ). leaves_at s.dimensions (path_of ps (get_or rows i []))) (sym columns)
        ∙ ap (leaves_at s.dimensions) (sym (same_path header members fields rows held places i l marked)) ∙ ap (leaves_at s.dimensions) (sym alike.same) in
        subst (λ (p : List ℕ). IsIn p (first_points points.firsts)) (sym is)
        (map_has (λ (r : ℕ). leaves_at s.dimensions (kept_path fields places r)) (get_or points.firsts alike.number 0) points.firsts (index_in points.firsts alike.number 0 alike.within))

    -- the points of some rows, among those of all, are among others
    points_among : (front behind : List (List (List ℕ))) (others : List (List ℕ)) → rows ≡ front ++ behind → ((i : ℕ) → i < length rows → IsIn (leaves_of s header (get_or rows i [])) others)
        → length (points_in s header front) ≤ length others
    points_among front behind others whole each =
        no_more (in_order (map (leaves_of s header) front)) others (in_order_increasing (map (leaves_of s header) front)) (λ z h. from (IsIn-map (leaves_of s header) z front (IsIn-in_order z (map (leaves_of s header) front) h)))
      where
        from : {z : List ℕ} → ((x : List (List ℕ)) × (IsIn x front) × (leaves_of s header x ≡ z)) → IsIn z others
        from (x, h, e) =
            let r = at_index x rows [] (subst (λ (xs : List (List (List ℕ))). IsIn x xs) (sym whole) (append_left x front behind h)) in
            subst (λ (p : List ℕ). IsIn p others) (ap (leaves_of s header) r.2 ∙ e) (each r.0 r.1)

    few_by : (front behind : List (List (List ℕ))) → rows ≡ front ++ behind → IsDims s → HasFewPoints s.dimensions fields places (length rows) → length (points_in s header front) ≤ 65536
    few_by front behind whole rules (inl few) =
        let less = points_among front behind (map (leaves_of s header) rows) whole (λ i l. map_has (leaves_of s header) (get_or rows i []) rows (index_in rows i [] l)) in
        let long = length-map rows (leaves_of s header) in
        omega (arith, less, long, few)
    few_by front behind whole rules (inr (inl few)) =
        let less = points_among front behind (all_points (map plain s.dimensions)) whole (λ i l. all_points_has (map plain s.dimensions) (leaves_of s header (get_or rows i [])) (leaves_are_points s.dimensions rules.each_dimension header (get_or rows i []))) in
        let many = points_many s.dimensions in
        omega (arith, less, many, few)
    few_by front behind whole rules (inr (inr points)) =
        let less = points_among front behind (first_points points.firsts) whole (row_point points) in
        let long = length-map points.firsts (λ (r : ℕ). leaves_at s.dimensions (kept_path fields places r)) in
        let few = points.few in
        omega (arith, less, long, few)

-- ---- a whole file

none_in_turn : {X F : Type 0} (f : List X → X → List F) (all earlier left : List X) → all ≡ earlier ++ left → ((front : List X) (x : X) (behind : List X) → all ≡ front ++ x ∷ behind → f front x ≡ []) → in_turn f earlier left ≡ []
none_in_turn f all earlier [] whole none = refl
none_in_turn f all earlier (x ∷ left) whole none = rw (none earlier x left whole) (none_in_turn f all (earlier ++ x ∷ []) left (whole ∙ sym (append_assoc earlier (x ∷ []) left)) none)

module _ (s : Dims) (bytes : List ℕ) (header : List (List ℕ)) (members : List Bool) (fields : List (List (List ℕ))) (many : ℕ) (decimals places : List ℕ)
    (rules : IsDims s)
    (shown : Shown bytes header members fields many decimals)
    (unmarked : begins_with_mark (strip_bom bytes) ≡ false)
    (true_of : AreTrue bytes s)
    (leaves_once : AreOnce header (λ (d : NamedDimension). d.column) s.dimensions)
    (numbers_once : AreOnce header (λ (m : NamedMeasure). m.column) s.measures)
    (measured : (k : ℕ) → k < length s.measures → IsMeasured header members decimals (measure_at s k))
    (columns : places ≡ leaf_columns header s.dimensions)
    (marked : (k : ℕ) → k < length places → (get_or places k 0 < length members) × IsMarked members (get_or places k 0))
    (points : HasFewPoints s.dimensions fields places many) where
  no_columns : flat_map (column_faults header) (column_names s) ≡ []
  no_columns = once_none header (λ (d : NamedDimension). d.column) s.dimensions (map (λ m. m.column) s.measures) leaves_once (once_all header (λ (m : NamedMeasure). m.column) s.measures numbers_once)

  made_here : (i : ℕ) → i < length s.dimensions → IsMade header shown.holds.rows (dimension_at s i)
  made_here i l =
      let all : true_of.header ∷ true_of.rows ≡ header ∷ shown.holds.rows = sym true_of.records ∙ shown.holds.records in
      let head : true_of.header ≡ header = cc in
      let tail : true_of.rows ≡ shown.holds.rows = cc in
      subst (λ (h : List (List ℕ)). IsMade h shown.holds.rows (dimension_at s i)) head (subst (λ (rows : List (List (List ℕ))). IsMade true_of.header rows (dimension_at s i)) tail (true_of.each i l))

  no_field_faults : (k row : ℕ) → k < length shown.holds.rows → flat_map (field_faults s row) (zip header (get_or shown.holds.rows k [])) ≡ []
  no_field_faults k row l =
      let x = get_or shown.holds.rows k [] in
      no_faults s header x no_columns row (map (λ d. unwrap_or (leaf_of d (field_in header x d.column)) 0) s.dimensions) (map (λ m. ok_or_zero (units_of m.decimals (field_in header x m.column))) s.measures)
      (all_some (λ d. leaf_of d (field_in header x d.column)) s.dimensions no_dimension (λ i li. leaf_there header shown.holds.rows (dimension_at s i) k (made_here i li) (dimension_rules s.dimensions i rules.each_dimension li) (once_at header (λ (d : NamedDimension). d.column) s.dimensions i no_dimension leaves_once li) l))
      (all_ok (λ m. units_of m.decimals (field_in header x m.column)) s.measures no_measure (λ i li. number_there header members decimals x (measure_at s i) (measured i li) (shown.seen.numbers k l)))

  no_record_faults : (front : List (List (List ℕ))) (x : List (List ℕ)) (behind : List (List (List ℕ))) → shown.holds.rows ≡ front ++ x ∷ behind → record_faults s header front x ≡ []
  no_record_faults front x behind whole =
      let rows = shown.holds.rows in
      let k = length front in
      let total : length rows ≡ length front + suc (length behind) = ap length whole ∙ length-append front (x ∷ behind) in
      let l : k < length rows = omega (arith, total) in
      let here : get_or rows k [] ≡ x = ap (λ (xs : List (List (List ℕ))). get_or xs k []) whole ∙ get_or-append_seam front x behind [] in
      let few : k < 1000000 = let m = shown.seen.few in omega (arith, m, l) in
      let wide : length x ≡ length header = ap length (sym here) ∙ shown.seen.wide k l in
      let fields_right : flat_map (field_faults s (k + 1)) (zip header x) ≡ [] = ap (λ (y : List (List ℕ)). flat_map (field_faults s (k + 1)) (zip header y)) (sym here) ∙ no_field_faults k (k + 1) l in
      let own : own_faults s header k x ≡ [] = no_own_faults s header x k few wide fields_right in
      let small : length (points_in s header (front ++ x ∷ [])) ≤ 65536 =
      few_by s header members fields rows shown.holds.held places columns marked (front ++ x ∷ []) behind (whole ∙ sym (append_assoc front (x ∷ []) behind)) rules (subst (HasFewPoints s.dimensions fields places) shown.holds.counted points) in
      let test : ltb most_points (length (points_in s header (front ++ x ∷ []))) ≡ false = le-ltb most_points (length (points_in s header (front ++ x ∷ []))) small in
      rw (own, test) refl

  -- the file is accepted
  pub is_filled : IsFilled s bytes
  is_filled =
      let rows = shown.holds.rows in
      let facts = map (fact_of s header) rows in
      let turns : in_turn (record_faults s header) [] rows ≡ [] = none_in_turn (record_faults s header) rows [] rows refl no_record_faults in
      let read : facts_in s (header ∷ rows) ≡ Ok facts = rw (no_columns, turns) refl in
      let said : facts_of s bytes ≡ Ok facts = start_unmarked s bytes unmarked ∙ ap (facts_in s) shown.holds.records ∙ read in
      record { filled = (shape_of facts, cube_of s facts); accepted = ap (filled s) said }
