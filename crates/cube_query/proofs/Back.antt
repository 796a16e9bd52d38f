-- Canonical texts read back as their requests.
use Rattle.std.proofs.Common.{◌≡◌, ℕ, zero, suc, ◌<◌, Bool, true, false, ltb, List, [], ◌∷◌, ◌++◌, length, map, filter, refl, sym, ap, ◌∙◌, arith, append_assoc, length-append, Ok, replicate}
use Rattle.std.specs.Prelude.{Option, Some, None, not, slice_index_or, slice_set}
use Rattle.std.specs.List.{list_any, AllByRecursion}
use Rattle.std.specs.Str.{bytes_eq}
use Rattle.std.proofs.lemmas.Bool.{false≢true, ltb-true, ltb-false, le-ltb}
use Rattle.cube_model.specs.Cubes.{distinct, names_at, same}
use Rattle.cube_model.proofs.Members.{tested}
use Rattle.cube_model.proofs.DimsFacts.{same-bytes_eq}
use Rattle.cube_model.specs.Checks.{unless}
use Rattle.cube_model.specs.Dims.{Dims, NamedDimension, NamedMeasure, plain, members, dimension_names, measure_names, measure_at, no_dimension, no_measure, IsDims, IsDimension, IsMeasure}
use Rattle.cube_model.specs.declared.request.Request.{Request}
use Rattle.cube_model.specs.declared.request.What.{What}
use Rattle.cube_model.specs.declared.request.What.TheVariants.{Count, Measure}
use Rattle.cube_model.specs.declared.request.Pick.{Pick}
use Rattle.cube_query.specs.declared.query.LevelName.{LevelName}
use Rattle.cube_query.specs.declared.query.PickName.{PickName}
use Rattle.cube_query.specs.declared.query.Query.{Query}
use Rattle.cube_query.specs.declared.resolving.ResolveFault.{ResolveFault}
use Rattle.cube_query.specs.Grammar.{queries, query_of, syntax_at}
use Rattle.cube_query.specs.Requests.{number, is_unknown, named, said_of, level_faults, pick_faults, by_faults, picks_faults, query_faults, what_faults, what_of, level_in_dimension, pick_in_dimension, group_at, pick_at, resolved}
use Rattle.cube_query.specs.Placing.{placed, all_placed, or_all}
use Rattle.cube_query.specs.Canonical.{PickFits, PicksFit, is_there, is_request, request_text}
use Rattle.cube_query.specs.Faults.{request_of}
use Rattle.cube_query.proofs.Places.{Once, once, names_of, bytes_same, bytes_refl, number_first, unknown_behind, number_behind, all_said, or_said, unless_ok}
use Rattle.cube_query.proofs.Prints.{Keeps, LevelsFit, request_fits}
use Rattle.cube_query.proofs.Printed.{AreItems}
use Rattle.cube_query.proofs.Says.{LevelSays, PickSays, level_options, what_name, QuerySays, all_clean, is_said, name_plain, measure_named, Plain}
use Rattle.cube_query.proofs.Wholes.{first_of, at_most_one}

-- ---- a name found by its number

any_at : (p : List ℕ → Bool) (xs : List (List ℕ)) (k : ℕ) → list_any p xs ≡ false → k < length xs → p (slice_index_or xs k []) ≡ false
any_at p [] k e l = absurd (omega (arith, l))
any_at p (x ∷ xs) zero e l = tested (p x) (λ t. absurd (false≢true (sym e ∙ rw t refl))) (λ t. t)
any_at p (x ∷ xs) (suc k) e l = any_at p xs k (tested (p x) (λ t. absurd (false≢true (sym e ∙ rw t refl))) (λ t. sym (rw t refl) ∙ e)) (omega (arith, l))

other_way : (x y : List ℕ) → bytes_eq x y ≡ false → bytes_eq y x ≡ false
other_way x y e = tested (bytes_eq y x) (λ t. absurd (false≢true (sym e ∙ ap (λ z. bytes_eq x z) (bytes_same y x t) ∙ bytes_refl x))) (λ t. t)

pub found_at : (xs : List (List ℕ)) (k : ℕ) → Once xs → k < length xs → (number (slice_index_or xs k []) xs ≡ k) × (is_unknown (slice_index_or xs k []) xs ≡ false)
found_at [] k o l = absurd (omega (arith, l))
found_at (x ∷ xs) zero o l = number_first x x xs (bytes_refl x)
found_at (x ∷ xs) (suc k) o l =
    let w : k < length xs = omega (arith, l) in
    let again = found_at xs k o.1 w in
    let e = other_way x (slice_index_or xs k []) (any_at (bytes_eq x) xs k o.0 w) in
    (number_behind (slice_index_or xs k []) x xs e again.1 ∙ ap (λ n. suc n) again.0, unknown_behind (slice_index_or xs k []) x xs e ∙ again.1)

any_filter : (p q : List ℕ → Bool) (xs : List (List ℕ)) → list_any p xs ≡ false → list_any p (filter q xs) ≡ false
any_filter p q [] e = refl
any_filter p q (x ∷ xs) e = tested (p x)
    (λ t. absurd (false≢true (sym e ∙ rw t refl)))
    (λ t. let i = any_filter p q xs (sym (rw t refl) ∙ e) in tested (q x) (λ u. rw (u, t) i) (λ u. rw u i))

once_filter : (q : List ℕ → Bool) (xs : List (List ℕ)) → Once xs → Once (filter q xs)
once_filter q [] o = tt
once_filter q (x ∷ xs) o = tested (q x) (λ t. rw t (any_filter (bytes_eq x) q xs o.0, once_filter q xs o.1)) (λ t. rw t (once_filter q xs o.1))

apart : (x : List ℕ) (xs : List (List ℕ)) → list_any (bytes_eq x) (filter (λ y. not (same x y)) xs) ≡ false
apart x [] = refl
apart x (y ∷ ys) = tested (same x y) (λ t. rw t (apart x ys)) (λ t. rw (t, sym (same-bytes_eq x y) ∙ t) (apart x ys))

pub once_distinct : (xs : List (List ℕ)) → Once (distinct xs)
once_distinct [] = tt
once_distinct (x ∷ xs) = (apart x (distinct xs), once_filter (λ y. not (same x y)) (distinct xs) (once_distinct xs))

-- ---- the middle of a list

name_middle : (before : List NamedDimension) (d : NamedDimension) (ds : List NamedDimension) → slice_index_or (names_of (before ++ d ∷ ds)) (length before) [] ≡ d.name
name_middle [] d ds = refl
name_middle (e ∷ before) d ds = name_middle before d ds

dimension_middle : (before : List NamedDimension) (d : NamedDimension) (ds : List NamedDimension) → slice_index_or (before ++ d ∷ ds) (length before) no_dimension ≡ d
dimension_middle [] d ds = refl
dimension_middle (e ∷ before) d ds = dimension_middle before d ds

names_long : (before : List NamedDimension) (d : NamedDimension) (ds : List NamedDimension) → length before < length (names_of (before ++ d ∷ ds))
names_long [] d ds = omega arith
names_long (e ∷ before) d ds = let a = names_long before d ds in omega (arith, a)

slot_middle : {V : Type 0} (os rest : List (Option V)) (o : Option V) → slice_index_or (os ++ o ∷ rest) (length os) None ≡ o
slot_middle [] rest o = refl
slot_middle (p ∷ os) rest o = slot_middle os rest o

set_middle : {V : Type 0} (os rest : List (Option V)) (o p : Option V) → slice_set (os ++ o ∷ rest) (length os) p ≡ os ++ p ∷ rest
set_middle [] rest o p = refl
set_middle (q ∷ os) rest o p = ap (λ z. q ∷ z) (set_middle os rest o p)

-- where the dimension with a name stands
pub record StandsAt (s : Dims) (before : List NamedDimension) (d : NamedDimension) : Type 0 where
  pub number : number d.name (dimension_names s) ≡ length before
  pub known : is_unknown d.name (dimension_names s) ≡ false
  pub named : named s d.name ≡ d

pub stands_at : (s : Dims) (before : List NamedDimension) (d : NamedDimension) (ds : List NamedDimension) → Once (dimension_names s) → s.dimensions ≡ before ++ d ∷ ds → StandsAt s before d
stands_at s before d ds o e =
    let n : dimension_names s ≡ names_of (before ++ d ∷ ds) = ap names_of e in
    let f = found_at (names_of (before ++ d ∷ ds)) (length before) (rw n at o) (names_long before d ds) in
    let m = name_middle before d ds in
    let a : number d.name (names_of (before ++ d ∷ ds)) ≡ length before = rw m at f.0 in
    let b : is_unknown d.name (names_of (before ++ d ∷ ds)) ≡ false = rw m at f.1 in
    record { number = rw n a; known = rw n b; named = rw (n, a, e) (dimension_middle before d ds) }

-- what an item says of a dimension: its name, no fault, and the value
abbrev pub Says : {X V : Type 0} → (X → LevelName) → (X → List ResolveFault) → (NamedDimension → X → V) → NamedDimension → V → X → Type 0
Says l others value d v x = ((l x).dimension.text ≡ d.name) × (others x ≡ []) × (value d x ≡ v)

placed_here : {X V : Type 0} (l : X → LevelName) (others : X → List ResolveFault) (value : NamedDimension → X → V) (s : Dims) (before : List NamedDimension) (d : NamedDimension) (os rest : List (Option V)) (v : V) (x : X)
    → StandsAt s before d → length os ≡ length before → Says l others value d v x → placed l others value s (os ++ None ∷ rest) x ≡ Ok (os ++ Some v ∷ rest)
placed_here l others value s before d os rest v x h n says =
    rw (says.0, h.named, says.2, h.known, h.number, sym n, slot_middle os rest None, says.1, set_middle os rest None (Some v)) refl

-- what has to hold of each value that is said
abbrev pub AllFit : {V : Type 0} → (NamedDimension → V → Type 0) → List NamedDimension → List (Option V) → Type 0
AllFit Fit [] [] = Unit {0}
AllFit Fit [] (o ∷ os) = ⊥
AllFit Fit (d ∷ ds) [] = ⊥
AllFit Fit (d ∷ ds) (None ∷ os) = AllFit Fit ds os
AllFit Fit (d ∷ ds) (Some v ∷ os) = Fit d v × AllFit Fit ds os

one_longer : {V : Type 0} (os : List (Option V)) (o : Option V) (before : List NamedDimension) (d : NamedDimension) → length os ≡ length before → length (os ++ o ∷ []) ≡ length (before ++ d ∷ [])
one_longer os o before d e = omega (arith, e, length-append os (o ∷ []), length-append before (d ∷ []))

all_filled : {X V : Type 0} (l : X → LevelName) (others : X → List ResolveFault) (value : NamedDimension → X → V) (M : NamedDimension → V → X → Type 0) (Fit : NamedDimension → V → Type 0) (s : Dims) → Once (dimension_names s)
    → ((d : NamedDimension) (v : V) (x : X) → named s d.name ≡ d → Fit d v → M d v x → Says l others value d v x)
    → (before ds : List NamedDimension) (filled os : List (Option V)) (xs : List X) → s.dimensions ≡ before ++ ds → length filled ≡ length before → AllFit Fit ds os → AreItems M ds os xs
    → all_placed (placed l others value s) (filled ++ replicate (length ds) None) xs ≡ Ok (filled ++ os)
all_filled l others value M Fit s o says before [] filled [] [] e n f a = refl
all_filled l others value M Fit s o says before [] filled [] (x ∷ xs) e n f a = absurd a
all_filled l others value M Fit s o says before [] filled (p ∷ os) xs e n f a = absurd f
all_filled l others value M Fit s o says before (d ∷ ds) filled [] xs e n f a = absurd f
all_filled l others value M Fit s o says before (d ∷ ds) filled (None ∷ os) xs e n f a =
    let again = all_filled l others value M Fit s o says (before ++ d ∷ []) ds (filled ++ None ∷ []) os xs (e ∙ sym (append_assoc before (d ∷ []) ds)) (one_longer filled None before d n) f a in
    rw (append_assoc filled (None ∷ []) (replicate (length ds) None), append_assoc filled (None ∷ []) os) at again
all_filled l others value M Fit s o says before (d ∷ ds) filled (Some v ∷ os) [] e n f a = absurd a
all_filled l others value M Fit s o says before (d ∷ ds) filled (Some v ∷ os) (x ∷ xs) e n f a =
    let h = stands_at s before d ds o e in
    let p = placed_here l others value s before d filled (replicate (length ds) None) v x h n (says d v x h.named f.0 a.0) in
    let again = all_filled l others value M Fit s o says (before ++ d ∷ []) ds (filled ++ Some v ∷ []) os xs (e ∙ sym (append_assoc before (d ∷ []) ds)) (one_longer filled (Some v) before d n) f.1 a.1 in
    let k : all_placed (placed l others value s) (filled ++ Some v ∷ replicate (length ds) None) xs ≡ Ok (filled ++ Some v ∷ os) = rw (append_assoc filled (Some v ∷ []) (replicate (length ds) None), append_assoc filled (Some v ∷ []) os) at again in
    rw p k

-- ---- levels

abbrev LevelFit : NamedDimension → ℕ → Type 0
LevelFit d l = (l < length d.levels) × Once d.levels

level_says : (s : Dims) (d : NamedDimension) (l : ℕ) (x : LevelName) → named s d.name ≡ d → LevelFit d l → LevelSays d l x → Says (λ x. x) (level_faults s) level_in_dimension d l x
level_says s d l x n f m = let a = found_at d.levels l f.1 f.0 in (m.0, rw (m.0, n, m.1, a.1) refl, rw m.1 a.0)

-- ---- picks

abbrev PickFit : NamedDimension → Pick → Type 0
PickFit d p = PickFits d (Some p) × Once d.levels

pick_says : (s : Dims) (d : NamedDimension) (p : Pick) (x : PickName) → named s d.name ≡ d → PickFit d p → PickSays d p x → Says (λ x. x.level) (pick_faults s) pick_in_dimension d p x
pick_says s d p x n f m =
    let a = found_at d.levels p.level f.1 f.0.0 in
    let o = once_distinct (names_at (plain d) p.level) in
    let first = found_at (members d p.level) p.first o (let l : p.first < length (members d p.level) = omega (arith, f.0.1, f.0.2) in l) in
    let last = found_at (members d p.level) p.last o f.0.2 in
    (m.0, rw (m.0, n, m.1, a.1, a.0, m.2, m.3, first.1, last.1, first.0, last.0, le-ltb p.last p.first f.0.1) refl, rw (m.1, a.0, m.2, m.3, first.0, last.0) refl)

-- ---- what is asked

measure_middle : (ms : List NamedMeasure) (m : ℕ) → m < length ms → slice_index_or (map (λ e. e.name) ms) m [] ≡ (slice_index_or ms m no_measure).name
measure_middle [] m l = absurd (omega (arith, l))
measure_middle (e ∷ ms) zero l = refl
measure_middle (e ∷ ms) (suc m) l = measure_middle ms m (omega (arith, l))

measure_rules : (ms : List NamedMeasure) (m : ℕ) → AllByRecursion IsMeasure ms → m < length ms → IsMeasure (slice_index_or ms m no_measure)
measure_rules [] m h l = absurd (omega (arith, l))
measure_rules (e ∷ ms) zero h l = h.0
measure_rules (e ∷ ms) (suc m) h l = measure_rules ms m h.1 (omega (arith, l))

names_length : (ms : List NamedMeasure) → length (map (λ e. e.name) ms) ≡ length ms
names_length [] = refl
names_length (e ∷ ms) = ap (λ n. suc n) (names_length ms)

pub what_plain : (s : Dims) (w : What) → IsDims s → is_there s w ≡ true → Plain (what_name s w)
what_plain s Count h e = refl
what_plain s (Measure m) h e = let l = ltb-true m (length s.measures) e in name_plain (measure_at s m).name (measure_named (measure_at s m).name (measure_rules s.measures m h.each_measure l).name).0

pub record WhatSays (s : Dims) (w : What) (x : List ℕ) (at : ℕ) : Type 0 where
  pub faults : what_faults s (record { text = x; at = at }) ≡ []
  pub value : what_of s x ≡ w

what_says : (s : Dims) (w : What) (at : ℕ) → IsDims s → is_there s w ≡ true → WhatSays s w (what_name s w) at
what_says s Count at h e = record { faults = refl; value = refl }
what_says s (Measure m) at h e =
    let l = ltb-true m (length s.measures) e in
    let c = (measure_named (measure_at s m).name (measure_rules s.measures m h.each_measure l).name).1 in
    let k = measure_middle s.measures m l in
    let f = found_at (measure_names s) m (once (measure_names s) h.distinct_measures) (let n = names_length s.measures in omega (arith, l, n)) in
    let a : number (measure_at s m).name (measure_names s) ≡ m = rw k at f.0 in
    let b : is_unknown (measure_at s m).name (measure_names s) ≡ false = rw k at f.1 in
    record { faults = rw (c, b) refl; value = rw (c, a) refl }

-- ---- the request

levels_fit : (ds : List NamedDimension) (ls : List ℕ) → AllByRecursion IsDimension ds → LevelsFit ds ls → AllFit LevelFit ds (level_options ds ls)
levels_fit [] [] h f = tt
levels_fit [] (l ∷ ls) h f = absurd f
levels_fit (d ∷ ds) [] h f = absurd f
levels_fit (d ∷ ds) (l ∷ ls) h f = tested (ltb l (length d.levels))
    (λ e. rw e ((ltb-true l (length d.levels) e, once d.levels h.0.distinct_levels), levels_fit ds ls h.1 f.1))
    (λ e. rw e (levels_fit ds ls h.1 f.1))

picks_fit : (ds : List NamedDimension) (ps : List (Option Pick)) → AllByRecursion IsDimension ds → PicksFit ds ps → AllFit PickFit ds ps
picks_fit [] [] h f = tt
picks_fit [] (p ∷ ps) h f = absurd f
picks_fit (d ∷ ds) [] h f = absurd f
picks_fit (d ∷ ds) (None ∷ ps) h f = picks_fit ds ps h.1 f.1
picks_fit (d ∷ ds) (Some p ∷ ps) h f = ((f.0, once d.levels h.0.distinct_levels), picks_fit ds ps h.1 f.1)

all_again : (ds : List NamedDimension) (ls : List ℕ) → LevelsFit ds ls → or_all ds (level_options ds ls) ≡ ls
all_again [] [] f = refl
all_again [] (l ∷ ls) f = absurd f
all_again (d ∷ ds) [] f = absurd f
all_again (d ∷ ds) (l ∷ ls) f = tested (ltb l (length d.levels))
    (λ e. rw e (ap (λ z. l ∷ z) (all_again ds ls f.1)))
    (λ e. let w = ltb-false l (length d.levels) e in let same : length d.levels ≡ l = omega (arith, w, f.0) in rw (e, same) (ap (λ z. l ∷ z) (all_again ds ls f.1)))

same_request : (r : Request) (what : What) (group : List ℕ) (picks : List (Option Pick)) → what ≡ r.what → group ≡ r.group → picks ≡ r.picks → record { what = what; group = group; picks = picks } ≡ r
same_request r what group picks a b c = rw (a, b, c) refl

empty_unless : {A : Type 0} (fs : List ResolveFault) (x y : A) → unless fs x ≡ Ok y → fs ≡ []
empty_unless [] x y e = refl
empty_unless (f ∷ fs) x y e = absurd (cc)

pub resolves_back : (s : Dims) (r : Request) (q : Query) → IsDims s → Keeps s r → QuerySays s r q → resolved s q ≡ Ok r
unfolding resolved
resolves_back s r q h k says =
    let o = once (dimension_names s) h.distinct_dimensions in
    let by = sym (all_said (λ x. x) (level_faults s) level_in_dimension s h.distinct_dimensions q.by)
    ∙ all_filled (λ x. x) (level_faults s) level_in_dimension LevelSays LevelFit s o (λ d l x n f m. level_says s d l x n f m) [] s.dimensions [] (level_options s.dimensions r.group) q.by refl refl (levels_fit s.dimensions r.group h.each_dimension k.levels) says.by in
    let picks = sym (all_said (λ x. x.level) (pick_faults s) pick_in_dimension s h.distinct_dimensions q.picks)
    ∙ all_filled (λ x. x.level) (pick_faults s) pick_in_dimension PickSays PickFit s o (λ d p x n f m. pick_says s d p x n f m) [] s.dimensions [] r.picks q.picks refl refl (picks_fit s.dimensions r.picks h.each_dimension k.picks) says.picks in
    let by_value = (unless_ok (by_faults s q.by) (map (said_of (λ x. x) level_in_dimension q.by) s.dimensions) (level_options s.dimensions r.group) zero by).0 in
    let picks_value = (unless_ok (picks_faults s q.picks) (map (said_of (λ x. x.level) pick_in_dimension q.picks) s.dimensions) r.picks zero picks).0 in
    let no_by = empty_unless (by_faults s q.by) (map (said_of (λ x. x) level_in_dimension q.by) s.dimensions) (level_options s.dimensions r.group) by in
    let no_picks = empty_unless (picks_faults s q.picks) (map (said_of (λ x. x.level) pick_in_dimension q.picks) s.dimensions) r.picks picks in
    let w = what_says s r.what q.what.at h k.there in
    let no_what : what_faults s q.what ≡ [] = rw says.what (w.faults) in
    let none : query_faults s q ≡ [] = rw (no_what, no_by, no_picks) refl in
    let group : map (group_at q) s.dimensions ≡ r.group = sym (or_said q.by s.dimensions) ∙ ap (λ z. or_all s.dimensions z) by_value ∙ all_again s.dimensions r.group k.levels in
    let value : what_of s q.what.text ≡ r.what = rw says.what (w.value) in
    rw none (ap (λ z. Ok z) (same_request r (what_of s q.what.text) (map (group_at q) s.dimensions) (map (pick_at q) s.dimensions) value group picks_value))

pub reads_back : (s : Dims) (r : Request) → IsDims s → is_request s r ≡ true → request_of s (request_text s r) ≡ Ok r
unfolding request_of query_of
reads_back s r h e =
    let k = request_fits s r e in
    let i = is_said s r (all_clean s.dimensions h.each_dimension) k (what_plain s r.what h k.there) in
    let q = first_of (syntax_at (request_text s r)) i.query (queries (request_text s r)) i.is (λ p j. at_most_one (request_text s r) p i.query j i.is) in
    rw (q, resolves_back s r i.query h k i.says) refl
