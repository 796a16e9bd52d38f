-- Placing items one by one gives what the definition says of them.
use Rattle.std.proofs.Common.{◌≡◌, ℕ, suc, ◌+◌, ◌≤◌, Bool, true, false, cond, ltb, List, [], ◌∷◌, ◌++◌, length, map, filter, refl, sym, ap, ◌∙◌, arith, append_assoc, append-nil, Ok, Err, replicate}
use Rattle.std.specs.Prelude.{Option, Some, None, Result, is_some, is_none, unwrap_or, not, slice_index_or, slice_set}
use Rattle.std.specs.List.{list_any, position_or_len}
use Rattle.std.specs.Str.{bytes_eq}
use Rattle.std.proofs.lemmas.Bool.{false≢true, ltb-true, ltb-false, lt-ltb, le-ltb}
use Rattle.std.proofs.lemmas.Slice.Eq.{bytes_eq-Decides}
use Rattle.cube_model.proofs.Members.{tested}
use Rattle.cube_model.proofs.DimsFacts.{same-bytes_eq}
use Rattle.cube_model.specs.Checks.{in_turn, unless}
use Rattle.cube_model.specs.Cubes.{same, distinct}
use Rattle.cube_model.specs.Dims.{Dims, NamedDimension, dimension_names, no_dimension, AreDistinct}
use Rattle.cube_query.specs.declared.query.LevelName.{LevelName}
use Rattle.cube_query.specs.declared.resolving.ResolveFault.{ResolveFault}
use Rattle.cube_query.specs.declared.query.PickName.{PickName}
use Rattle.cube_query.specs.Requests.{number, is_unknown, named, item_faults, said_of, level_faults, pick_faults, by_faults, picks_faults, level_in_dimension, pick_in_dimension}
use Rattle.cube_query.specs.Placing.{placed, and_then, all_placed, level_placed, pick_placed, or_all}

-- ---- names that stand once

-- no name stands again behind itself
abbrev pub Once : List (List ℕ) → Type 0
Once [] = Unit {0}
Once (x ∷ xs) = (list_any (bytes_eq x) xs ≡ false) × Once xs

pub bytes_same : (x y : List ℕ) → bytes_eq x y ≡ true → x ≡ y
bytes_same x y e = (bytes_eq-Decides x y).0 e

pub bytes_refl : (x : List ℕ) → bytes_eq x x ≡ true
bytes_refl x = (bytes_eq-Decides x x).1 refl

filter_short : {X : Type 0} (p : X → Bool) (xs : List X) → length (filter p xs) ≤ length xs
filter_short p [] = omega arith
filter_short p (x ∷ xs) = let i = filter_short p xs in tested (p x) (λ e. rw e (omega (arith, i))) (λ e. rw e (omega (arith, i)))

distinct_short : (xs : List (List ℕ)) → length (distinct xs) ≤ length xs
distinct_short [] = omega arith
distinct_short (x ∷ xs) = let i = distinct_short xs in let f = filter_short (λ y. not (same x y)) (distinct xs) in omega (arith, i, f)

filter_full : {X : Type 0} (p : X → Bool) (xs : List X) → length (filter p xs) ≡ length xs → filter p xs ≡ xs
filter_full p [] e = refl
filter_full p (x ∷ xs) e = tested (p x)
    (λ t. rw t (ap (λ z. x ∷ z) (filter_full p xs (let k : suc (length (filter p xs)) ≡ suc (length xs) = rw t at e in omega (arith, k)))))
    (λ t. absurd (let k : length (filter p xs) ≡ suc (length xs) = rw t at e in let s = filter_short p xs in omega (arith, k, s)))

cons_tail : {X : Type 0} (x y : X) (xs ys : List X) → x ∷ xs ≡ y ∷ ys → xs ≡ ys
cons_tail x y xs ys e = cc

none_same : (x : List ℕ) (xs : List (List ℕ)) → filter (λ y. not (same x y)) xs ≡ xs → list_any (bytes_eq x) xs ≡ false
none_same x [] e = refl
none_same x (y ∷ ys) e = tested (same x y)
    (λ t. absurd (let k : filter (λ y. not (same x y)) ys ≡ y ∷ ys = rw t at e in let s = filter_short (λ y. not (same x y)) ys in let l = ap length k in omega (arith, s, l)))
    (λ t. let k : y ∷ filter (λ y. not (same x y)) ys ≡ y ∷ ys = rw t at e in
    rw (sym (same-bytes_eq x y) ∙ t) (none_same x ys (cons_tail y y (filter (λ y. not (same x y)) ys) ys k)))

pub once : (xs : List (List ℕ)) → distinct xs ≡ xs → Once xs
once [] e = tt
once (x ∷ xs) e =
    let t = cons_tail x x (filter (λ y. not (same x y)) (distinct xs)) xs e in
    let a = filter_short (λ y. not (same x y)) (distinct xs) in
    let b = distinct_short xs in
    let l : length (filter (λ y. not (same x y)) (distinct xs)) ≡ length (distinct xs) = omega (arith, a, b, ap length t) in
    let f = filter_full (λ y. not (same x y)) (distinct xs) l in
    let d : distinct xs ≡ xs = sym f ∙ t in
    (none_same x xs (let k : filter (λ y. not (same x y)) xs ≡ xs = rw d at t in k), once xs d)

-- ---- one more item

-- an item says nothing of the dimensions that it does not name
other_said : {X V : Type 0} (l : X → LevelName) (value : NamedDimension → X → V) (earlier : List X) (x : X) (d : NamedDimension) → bytes_eq (l x).dimension.text d.name ≡ false → said_of l value (earlier ++ x ∷ []) d ≡ said_of l value earlier d
other_said l value [] x d e = rw e refl
other_said l value (y ∷ ys) x d e = tested (bytes_eq (l y).dimension.text d.name) (λ t. rw t refl) (λ t. rw t (other_said l value ys x d e))

-- of its own dimension it says its value, where no earlier item names it
own_said : {X V : Type 0} (l : X → LevelName) (value : NamedDimension → X → V) (earlier : List X) (x : X) (d : NamedDimension) → bytes_eq (l x).dimension.text d.name ≡ true → is_some (said_of l value earlier d) ≡ false → said_of l value (earlier ++ x ∷ []) d ≡ Some (value d x)
own_said l value [] x d e n = rw e refl
own_said l value (y ∷ ys) x d e n = tested (bytes_eq (l y).dimension.text d.name) (λ t. absurd (false≢true (sym n ∙ rw t refl))) (λ t. rw t (own_said l value ys x d e (sym (rw t refl) ∙ n)))

-- an earlier item names the dimension
said_before : {X V : Type 0} (l : X → LevelName) (value : NamedDimension → X → V) (earlier : List X) (d : NamedDimension) → is_some (said_of l value earlier d) ≡ list_any (λ y. bytes_eq (l y).dimension.text d.name) earlier
said_before l value [] d = refl
said_before l value (y ∷ ys) d = tested (bytes_eq (l y).dimension.text d.name) (λ t. rw t refl) (λ t. rw t (said_before l value ys d))

abbrev pub names_of : List NamedDimension → List (List ℕ)
names_of ds = map (λ d. d.name) ds

others_said : {X V : Type 0} (l : X → LevelName) (value : NamedDimension → X → V) (earlier : List X) (x : X) (ds : List NamedDimension) → list_any (bytes_eq (l x).dimension.text) (names_of ds) ≡ false → map (said_of l value (earlier ++ x ∷ [])) ds ≡ map (said_of l value earlier) ds
others_said l value earlier x [] e = refl
others_said l value earlier x (d ∷ ds) e = tested (bytes_eq (l x).dimension.text d.name)
    (λ t. absurd (false≢true (sym e ∙ rw t refl)))
    (λ t. rw (other_said l value earlier x d t, others_said l value earlier x ds (sym (rw t refl) ∙ e)) refl)

less_suc : (k n : ℕ) → ltb (1 + k) (suc n) ≡ ltb k n
less_suc k n = tested (ltb k n)
    (λ e. let l = ltb-true k n e in rw e (lt-ltb (1 + k) (suc n) (omega (arith, l))))
    (λ e. let l = ltb-false k n e in rw e (le-ltb (1 + k) (suc n) (omega (arith, l))))

pub number_first : (x n : List ℕ) (ns : List (List ℕ)) → bytes_eq x n ≡ true → (number x (n ∷ ns) ≡ 0) × (is_unknown x (n ∷ ns) ≡ false)
number_first x n ns e = (rw (e, lt-ltb 0 (suc (length ns)) (omega arith)) refl, rw (e, lt-ltb 0 (suc (length ns)) (omega arith)) refl)

pub unknown_behind : (x n : List ℕ) (ns : List (List ℕ)) → bytes_eq x n ≡ false → is_unknown x (n ∷ ns) ≡ is_unknown x ns
unknown_behind x n ns e = rw (e, less_suc (position_or_len (bytes_eq x) ns) (length ns)) (by_test (ltb (position_or_len (bytes_eq x) ns) (length ns)))
  where
    by_test : (b : Bool) → is_none (cond b (Some (1 + position_or_len (bytes_eq x) ns)) None) ≡ is_none (cond b (Some (position_or_len (bytes_eq x) ns)) None)
    by_test true = refl
    by_test false = refl

pub number_behind : (x n : List ℕ) (ns : List (List ℕ)) → bytes_eq x n ≡ false → is_unknown x ns ≡ false → number x (n ∷ ns) ≡ suc (number x ns)
number_behind x n ns e u = rw (e, less_suc (position_or_len (bytes_eq x) ns) (length ns)) (by_test (ltb (position_or_len (bytes_eq x) ns) (length ns)) u)
  where
    by_test : (b : Bool) → is_none (cond b (Some (position_or_len (bytes_eq x) ns)) None) ≡ false → unwrap_or (cond b (Some (1 + position_or_len (bytes_eq x) ns)) None) 0 ≡ suc (unwrap_or (cond b (Some (position_or_len (bytes_eq x) ns)) None) 0)
    by_test true u = omega arith
    by_test false u = absurd (false≢true (sym u))

-- an earlier item named the dimension just where something stands in its place
twice_said : {X V : Type 0} (l : X → LevelName) (value : NamedDimension → X → V) (earlier : List X) (n : List ℕ) (ds : List NamedDimension) → is_unknown n (names_of ds) ≡ false → is_some (slice_index_or (map (said_of l value earlier) ds) (number n (names_of ds)) None) ≡ list_any (λ y. bytes_eq (l y).dimension.text n) earlier
twice_said l value earlier n [] u = absurd (false≢true (sym u))
twice_said l value earlier n (d ∷ ds) u = tested (bytes_eq n d.name)
    (λ t. let f = number_first n d.name (names_of ds) t in rw f.0 (rw (bytes_same n d.name t) (said_before l value earlier d)))
    (λ t. let k = sym (unknown_behind n d.name (names_of ds) t) ∙ u in rw (number_behind n d.name (names_of ds) t k) (twice_said l value earlier n ds k))

-- one more item in its place
set_said : {X V : Type 0} (l : X → LevelName) (value : NamedDimension → X → V) (earlier : List X) (x : X) (ds : List NamedDimension) → Once (names_of ds) → is_unknown (l x).dimension.text (names_of ds) ≡ false
    → is_some (slice_index_or (map (said_of l value earlier) ds) (number (l x).dimension.text (names_of ds)) None) ≡ false
    → slice_set (map (said_of l value earlier) ds) (number (l x).dimension.text (names_of ds)) (Some (value (slice_index_or ds (number (l x).dimension.text (names_of ds)) no_dimension) x)) ≡ map (said_of l value (earlier ++ x ∷ [])) ds
set_said l value earlier x [] o u e = absurd (false≢true (sym u))
set_said l value earlier x (d ∷ ds) o u e = tested (bytes_eq (l x).dimension.text d.name)
    (λ t. let f = number_first (l x).dimension.text d.name (names_of ds) t in
    let free : is_some (said_of l value earlier d) ≡ false = rw f.0 at e in
    let same = bytes_same (l x).dimension.text d.name t in
    rw (f.0, own_said l value earlier x d t free, others_said l value earlier x ds (rw same o.0)) refl)
    (λ t. let k = sym (unknown_behind (l x).dimension.text d.name (names_of ds) t) ∙ u in
    let m = number_behind (l x).dimension.text d.name (names_of ds) t k in
    let free : is_some (slice_index_or (map (said_of l value earlier) ds) (number (l x).dimension.text (names_of ds)) None) ≡ false = rw m at e in
    rw (m, other_said l value earlier x d t, set_said l value earlier x ds o.1 k free) refl)

all_is : {X V : Type 0} (l : X → LevelName) (others : X → List ResolveFault) (value : NamedDimension → X → V) (s : Dims) → Once (dimension_names s) → (earlier xs : List X)
    → all_placed (placed l others value s) (map (said_of l value earlier) s.dimensions) xs ≡ unless (in_turn (item_faults l others s) earlier xs) (map (said_of l value (earlier ++ xs)) s.dimensions)
all_is l others value s o earlier [] = rw (append-nil earlier) refl
all_is {X} {V} l others value s o earlier (x ∷ xs) = tested (is_unknown (l x).dimension.text (dimension_names s))
    (λ u. rw u refl)
    (λ u. let t = twice_said l value earlier (l x).dimension.text s.dimensions u in
    tested (list_any (λ y. bytes_eq (l y).dimension.text (l x).dimension.text) earlier)
    (λ e. rw (u, t, e) refl)
    (λ e. rw (u, t, e) (go (others x) (set_said l value earlier x s.dimensions o u (t ∙ e)) (all_is l others value s o (earlier ++ x ∷ []) xs))))
  where
    go : (fs : List ResolveFault) → slice_set (map (said_of l value earlier) s.dimensions) (number (l x).dimension.text (dimension_names s)) (Some (value (named s (l x).dimension.text) x)) ≡ map (said_of l value (earlier ++ x ∷ [])) s.dimensions
        → all_placed (placed l others value s) (map (said_of l value (earlier ++ x ∷ [])) s.dimensions) xs ≡ unless (in_turn (item_faults l others s) (earlier ++ x ∷ []) xs) (map (said_of l value ((earlier ++ x ∷ []) ++ xs)) s.dimensions)
        → and_then (unless fs (slice_set (map (said_of l value earlier) s.dimensions) (number (l x).dimension.text (dimension_names s)) (Some (value (named s (l x).dimension.text) x)))) (λ slots. all_placed (placed l others value s) slots xs)
        ≡ unless (fs ++ in_turn (item_faults l others s) (earlier ++ x ∷ []) xs) (map (said_of l value (earlier ++ (x ∷ xs))) s.dimensions)
    go [] a b = rw a (b ∙ ap (λ z. unless (in_turn (item_faults l others s) (earlier ++ x ∷ []) xs) (map (said_of l value z) s.dimensions)) (append_assoc earlier (x ∷ []) xs))
    go (f ∷ fs) a b = refl

nothing_said : {X V : Type 0} (l : X → LevelName) (value : NamedDimension → X → V) (ds : List NamedDimension) → replicate (length ds) None ≡ map (said_of l value []) ds
nothing_said l value [] = refl
nothing_said l value (d ∷ ds) = ap (λ z. None ∷ z) (nothing_said l value ds)

-- items placed one by one, from the first on
pub all_said : {X V : Type 0} (l : X → LevelName) (others : X → List ResolveFault) (value : NamedDimension → X → V) (s : Dims) → AreDistinct (dimension_names s) → (xs : List X)
    → all_placed (placed l others value s) (replicate (length s.dimensions) None) xs ≡ unless (in_turn (item_faults l others s) [] xs) (map (said_of l value xs) s.dimensions)
all_said l others value s d xs = rw (nothing_said l value s.dimensions) (all_is l others value s (once (dimension_names s) d) [] xs)

pub or_said : (by : List LevelName) (ds : List NamedDimension) → or_all ds (map (said_of (λ x. x) level_in_dimension by) ds) ≡ map (λ d. unwrap_or (said_of (λ x. x) level_in_dimension by d) (length d.levels)) ds
or_said by [] = refl
or_said by (d ∷ ds) = rw (or_said by ds) refl

abbrev pub as_result : {A : Type 0} → A → Result A ResolveFault
as_result x = Ok x

pub ok_same : {A : Type 0} (x y : A) → as_result x ≡ as_result y → x ≡ y
ok_same x y e = cc

pub unless_ok : {A B : Type 0} (fs : List ResolveFault) (x y : A) (z : B) → unless fs x ≡ Ok y → (x ≡ y) × (unless fs z ≡ Ok z)
unless_ok [] x y z e = (ok_same x y e, refl)
unless_ok (f ∷ fs) x y z e = absurd (cc)

unless_err : {A B : Type 0} (fs : List ResolveFault) (x : A) (z : B) (e : ResolveFault) → unless fs x ≡ Err e → unless fs z ≡ Err e
unless_err [] x z e h = absurd (cc)
unless_err (f ∷ fs) x z e h = let k : f ≡ e = cc in rw k refl

-- the grouping levels that the items name
pub levels_said : (s : Dims) (by : List LevelName) (slots : List (Option ℕ)) → AreDistinct (dimension_names s) → all_placed (level_placed s) (replicate (length s.dimensions) None) by ≡ Ok slots → unless (by_faults s by) (map (λ d. unwrap_or (said_of (λ x. x) level_in_dimension by d) (length d.levels)) s.dimensions) ≡ Ok (or_all s.dimensions slots)
unfolding level_placed
levels_said s by slots d e =
    let k = unless_ok (by_faults s by) (map (said_of (λ x. x) level_in_dimension by) s.dimensions) slots (map (λ d. unwrap_or (said_of (λ x. x) level_in_dimension by d) (length d.levels)) s.dimensions) (sym (all_said (λ x. x) (level_faults s) level_in_dimension s d by) ∙ e) in
    k.1 ∙ ap (λ z. Ok z) (sym (or_said by s.dimensions) ∙ ap (λ z. or_all s.dimensions z) k.0)

pub levels_fault : (s : Dims) (by : List LevelName) (f : ResolveFault) → AreDistinct (dimension_names s) → all_placed (level_placed s) (replicate (length s.dimensions) None) by ≡ Err f → unless (by_faults s by) (map (λ d. unwrap_or (said_of (λ x. x) level_in_dimension by d) (length d.levels)) s.dimensions) ≡ Err f
unfolding level_placed
levels_fault s by f d e = unless_err (by_faults s by) (map (said_of (λ x. x) level_in_dimension by) s.dimensions) (map (λ d. unwrap_or (said_of (λ x. x) level_in_dimension by d) (length d.levels)) s.dimensions) f (sym (all_said (λ x. x) (level_faults s) level_in_dimension s d by) ∙ e)

-- the picks that the items name
pub picks_said : (s : Dims) (picks : List PickName) → AreDistinct (dimension_names s) → all_placed (pick_placed s) (replicate (length s.dimensions) None) picks ≡ unless (picks_faults s picks) (map (said_of (λ x. x.level) pick_in_dimension picks) s.dimensions)
unfolding pick_placed
picks_said s picks d = all_said (λ x. x.level) (pick_faults s) pick_in_dimension s d picks

-- checks in order: the first fault, or the value where there is none
pub first_fault : {A B : Type 0} (fs gs : List ResolveFault) (x : A) (z : B) (e : ResolveFault) → unless fs x ≡ Err e → unless (fs ++ gs) z ≡ Err e
first_fault [] gs x z e h = absurd (cc)
first_fault (f ∷ fs) gs x z e h = let k : f ≡ e = cc in rw k refl

pub no_fault : {A B : Type 0} (fs gs : List ResolveFault) (x y : A) (z : B) → unless fs x ≡ Ok y → unless (fs ++ gs) z ≡ unless gs z
no_fault [] gs x y z h = refl
no_fault (f ∷ fs) gs x y z h = absurd (cc)
