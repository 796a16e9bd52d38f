-- A fact file, record by record, and the core that it fills.
use Rattle.std.proofs.Common.{◌≡◌, inl, inr, ℕ, zero, suc, ◌+◌, ◌*◌, ◌^◌, ◌<◌, ◌≤◌, Bool, true, false, cond, List, [], ◌∷◌, ◌++◌, length, map, filter, flat_map, get_or, Option, Some, None, Ok, Err, ℤ, pos, All, refl, sym, ap, ap₂, subst, ◌∙◌, arith, ltb, length-append, sum, unwrap_or, eqb}
use Rattle.std.specs.List.{list_all, AllByRecursion}
use Rattle.std.specs.Str.{bytes_eq}
use Rattle.std.proofs.lemmas.Bool.{false≢true, lt-ltb, le-ltb, ltb-true, ltb-false, and_parts, and_right, false_from_ne_true}
use Rattle.std.proofs.lemmas.List.Elements.{All-from_recursion, recursion_from_All}
use Rattle.std.proofs.lemmas.List.Quantifiers.{position-Some}
use Rattle.std.proofs.lemmas.List.Sums.{sum_by-cons, length-filter, count_by-le-length}
use Rattle.std.proofs.Math.Nat.{mul-le-mul}
use Rattle.std.proofs.lemmas.Nat.{row_fits}
use Rattle.std.proofs.lemmas.Int.{ints}
use Rattle.std.proofs.lemmas.List.{append-nil, append_assoc, length-map, map-append, get_or-map}
use Rattle.std.proofs.lemmas.Simd.{map-map}
use Rattle.csv.specs.Reading.{strip_bom}
use Rattle.cube_model.specs.Checks.{in_turn, unless}
use Rattle.cube_model.specs.Cores.{IsCore, IsSumOf, AreSumsOf}
use Rattle.cube_model.specs.Cubes.{same, before, count_from, Each, IsIn, IsPoint, IsIncreasing}
use Rattle.cube_model.specs.Dims.{Dims, NamedDimension, IsDims, IsDimension, plain, plains, members, found, column_names}
use Rattle.cube_model.specs.Names.{begins_with_mark}
use Rattle.cube_model.specs.Protection.{first}
use Rattle.cube_model.specs.declared.limit.LimitKind.TheVariants as limit
use Rattle.cube_model.specs.declared.shape.Shape.{Shape}
use Rattle.cube_model.proofs.Members.{tested, same_eq, same_refl, IsIn-filter, filter_has, IsIn-map, IsIn-in_order, IsIn-count_from}
use Rattle.cube_model.proofs.Orders.{in_order_increasing}
use Rattle.cube_facts.specs.Records.{records_of}
use Rattle.cube_facts.specs.FactFile.{Fact, field_in, leaf_in, units_in, leaves_of, fact_of, column_faults, own_faults, record_faults, most_points, points_in, facts_in, facts_of, points_of, facts_at, units_sum, shape_of, cube_of}
use Rattle.cube_core.specs.Keys.{key_count}
use Rattle.cube_core.proofs.Ranking.{IsWithin}
use Rattle.cube_facts.specs.Blocks.{rest_of, Reads}
use Rattle.cube_facts.specs.Filling.{Gathers, Fits, Orders, IsFact, AreFacts}
use Rattle.cube_facts.specs.Table.{IsUnits}
use Rattle.cube_facts.specs.declared.fault.FactsFault.{FactsFault}
use Rattle.cube_facts.specs.declared.fault.FactsFault.TheVariants as fault
use Rattle.cube_facts.specs.declared.totals.Points.{Points}
use Rattle.cube_facts.proofs.Adding.{put_in_order, sums_of, rows_long, sum_read, count_long}
use Rattle.cube_facts.proofs.Load.{unless_first}

-- ---- what is left to say

rest_more : (s : Dims) (header : List (List ℕ)) (earlier left : List (List (List ℕ))) (f : List (List ℕ)) → record_faults s header earlier f ≡ [] → rest_of s header earlier (f ∷ left) ≡ rest_of s header (earlier ++ f ∷ []) left
rest_more s header earlier left f none = rw none (ap (λ (rows : List (List (List ℕ))). unless (in_turn (record_faults s header) (earlier ++ f ∷ []) left) (map (fact_of s header) rows)) (sym (append_assoc earlier (f ∷ []) left)))

rest_fault : (s : Dims) (header : List (List ℕ)) (earlier left : List (List (List ℕ))) (f : List (List ℕ)) (e : FactsFault) → first (record_faults s header earlier f) ≡ Some e → rest_of s header earlier (f ∷ left) ≡ Err e
rest_fault s header earlier left f e h = unless_first (record_faults s header earlier f) (in_turn (record_faults s header) (earlier ++ f ∷ []) left) e _ h

rest_none : (s : Dims) (header : List (List ℕ)) (earlier : List (List (List ℕ))) → rest_of s header earlier [] ≡ Ok (map (fact_of s header) earlier)
rest_none s header earlier = rw append-nil refl

-- ---- how a file begins

pub start_marked : (s : Dims) (bytes : List ℕ) → begins_with_mark (strip_bom bytes) ≡ true → facts_of s bytes ≡ Err fault.NoHeader
unfolding facts_of
start_marked s bytes h = rw h refl

pub start_unmarked : (s : Dims) (bytes : List ℕ) → begins_with_mark (strip_bom bytes) ≡ false → facts_of s bytes ≡ facts_in s (records_of bytes)
unfolding facts_of
start_unmarked s bytes h = rw h refl

pub start_none : (s : Dims) (all : List (List (List ℕ))) → all ≡ [] → facts_in s all ≡ Err fault.NoHeader
start_none s all none = rw none refl

pub start_columns : (s : Dims) (all : List (List (List ℕ))) (header : List (List ℕ)) (rows : List (List (List ℕ))) (e : FactsFault) → all ≡ header ∷ rows → first (flat_map (column_faults header) (column_names s)) ≡ Some e → facts_in s all ≡ Err e
start_columns s all header rows e is k = rw is (unless_first (flat_map (column_faults header) (column_names s)) (in_turn (record_faults s header) [] rows) e _ k)

start_whole : (s : Dims) (all : List (List (List ℕ))) (header : List (List ℕ)) (rows : List (List (List ℕ))) → all ≡ header ∷ rows → flat_map (column_faults header) (column_names s) ≡ [] → facts_in s all ≡ rest_of s header [] rows
start_whole s all header rows is none = rw (is, none) refl

-- ---- the loop

pub reads_start : (s : Dims) (all : List (List (List ℕ))) (header : List (List ℕ)) (points : Points) (left : List (List (List ℕ)))
    → all ≡ header ∷ left → flat_map (column_faults header) (column_names s) ≡ [] → Gathers s [] points
    → Reads s all header points 0 left
reads_start s all header points left start none empty = record {
  earlier = [];
  counted = refl;
  whole = start_whole s all header left start none;
  facts = record { each = tt; few = omega arith; few_points = omega arith };
  gathers = empty;
}

-- where the points of some records are few enough
points_fit : (s : Dims) (header : List (List ℕ)) (earlier : List (List (List ℕ))) (f : List (List ℕ)) (count : ℕ) → count ≡ length earlier → own_faults s header count f ≡ [] → length (points_of (map (fact_of s header) (earlier ++ f ∷ []))) ≤ 65536 → record_faults s header earlier f ≡ []
points_fit s header earlier f count counted none few =
    let same : map (leaves_of s header) (earlier ++ f ∷ []) ≡ map (λ g. g.leaves) (map (fact_of s header) (earlier ++ f ∷ [])) = sym (map-map (λ (g : Fact). g.leaves) (fact_of s header) (earlier ++ f ∷ [])) in
    let few_here : length (points_in s header (earlier ++ f ∷ [])) ≤ 65536 = rw same few in
    let test : ltb most_points (length (points_in s header (earlier ++ f ∷ []))) ≡ false = le-ltb most_points (length (points_in s header (earlier ++ f ∷ []))) few_here in
    rw (sym counted, none, test) refl

pub reads_more : (s : Dims) (all : List (List (List ℕ))) (header : List (List ℕ)) (points more : Points) (count : ℕ) (left behind : List (List (List ℕ))) (f : List (List ℕ)) (fact : Fact)
    → Reads s all header points count left → left ≡ f ∷ behind → own_faults s header count f ≡ [] → count < 1000000 → fact ≡ fact_of s header f → IsFact s fact
    → ((facts : List Fact) → Gathers s facts points → Gathers s (facts ++ fact ∷ []) more)
    → length more.leaves ≤ 65536
    → Reads s all header more (count + 1) behind
reads_more s all header points more count left behind f fact r next none few is rules step small =
    let facts = map (fact_of s header) r.earlier in
    let grown : map (fact_of s header) (r.earlier ++ f ∷ []) ≡ facts ++ fact ∷ [] = map-append (fact_of s header) r.earlier (f ∷ []) ∙ ap (λ g. facts ++ g ∷ []) (sym is) in
    let gathers = step facts r.gathers in
    let long : length (points_of (facts ++ fact ∷ [])) ≡ length more.leaves = gathers.many in
    let points_few : length (points_of (facts ++ fact ∷ [])) ≤ 65536 = omega (arith, long, small) in
    let fits : record_faults s header r.earlier f ≡ [] = points_fit s header r.earlier f count r.counted none (rw grown points_few) in
    record {
      earlier = r.earlier ++ f ∷ [];
      counted = rw (length-append r.earlier (f ∷ [])) (ap (λ (n : ℕ). n + 1) r.counted);
      whole = r.whole ∙ ap (rest_of s header r.earlier) next ∙ rest_more s header r.earlier behind f fits;
      facts = rw grown (record {
        each = each_more (IsFact s) facts fact r.facts.each rules;
        few = rw (length-append facts (fact ∷ [])) (omega (arith, few, r.counted, length-map r.earlier (fact_of s header)));
        few_points = points_few;
      });
      gathers = rw grown gathers;
    }
  where
    each_more : {X : Type 0} (P : X → Type 0) (xs : List X) (x : X) → Each P xs → P x → Each P (xs ++ x ∷ [])
    each_more P [] x h k = (k, tt)
    each_more P (y ∷ ys) x h k = (h.0, each_more P ys x h.1 k)

pub reads_fault : (s : Dims) (all : List (List (List ℕ))) (header : List (List ℕ)) (points : Points) (count : ℕ) (left behind : List (List (List ℕ))) (f : List (List ℕ)) (e : FactsFault)
    → Reads s all header points count left → left ≡ f ∷ behind → first (own_faults s header count f) ≡ Some e → facts_in s all ≡ Err e
reads_fault s all header points count left behind f e r next h =
    r.whole ∙ ap (rest_of s header r.earlier) next ∙ rest_fault s header r.earlier behind f e (first_of_more (own_faults s header (length r.earlier) f) _ e (rw r.counted at h))
  where
    first_of_more : (fs gs : List FactsFault) (e : FactsFault) → first fs ≡ Some e → first (fs ++ gs) ≡ Some e
    first_of_more [] gs e h = absurd (cc)
    first_of_more (g ∷ fs) gs e h = h

pub reads_points : (s : Dims) (all : List (List (List ℕ))) (header : List (List ℕ)) (points more : Points) (count : ℕ) (left behind : List (List (List ℕ))) (f : List (List ℕ)) (fact : Fact)
    → Reads s all header points count left → left ≡ f ∷ behind → own_faults s header count f ≡ [] → fact ≡ fact_of s header f
    → ((facts : List Fact) → Gathers s facts points → Gathers s (facts ++ fact ∷ []) more)
    → 65536 < length more.leaves
    → facts_in s all ≡ Err (fault.Limit limit.Points 65536)
reads_points s all header points more count left behind f fact r next none is step large =
    let facts = map (fact_of s header) r.earlier in
    let grown : map (fact_of s header) (r.earlier ++ f ∷ []) ≡ facts ++ fact ∷ [] = map-append (fact_of s header) r.earlier (f ∷ []) ∙ ap (λ g. facts ++ g ∷ []) (sym is) in
    let gathers = step facts r.gathers in
    let long : length (points_of (facts ++ fact ∷ [])) ≡ length more.leaves = gathers.many in
    let same : map (leaves_of s header) (r.earlier ++ f ∷ []) ≡ map (λ g. g.leaves) (facts ++ fact ∷ []) = sym (map-map (λ (g : Fact). g.leaves) (fact_of s header) (r.earlier ++ f ∷ [])) ∙ ap (map (λ (g : Fact). g.leaves)) grown in
    let many : 65536 < length (points_in s header (r.earlier ++ f ∷ [])) = rw same (omega (arith, long, large)) in
    let test : ltb most_points (length (points_in s header (r.earlier ++ f ∷ []))) ≡ true = lt-ltb most_points (length (points_in s header (r.earlier ++ f ∷ []))) many in
    let here : own_faults s header (length r.earlier) f ≡ [] = rw (sym r.counted) none in
    r.whole ∙ ap (rest_of s header r.earlier) next ∙ rest_fault s header r.earlier behind f (fault.Limit limit.Points 65536) (rw (here, test) refl)

pub reads_end : (s : Dims) (all : List (List (List ℕ))) (header : List (List ℕ)) (points : Points) (count : ℕ) (left : List (List (List ℕ)))
    → Reads s all header points count left → left ≡ [] → (facts : List Fact) × (facts_in s all ≡ Ok facts) × AreFacts s facts × Gathers s facts points
reads_end s all header points count left r none = (map (fact_of s header) r.earlier, r.whole ∙ ap (rest_of s header r.earlier) none ∙ rest_none s header r.earlier, r.facts, r.gathers)

-- ---- facts keep their rules

each_from : {X : Type 0} (P : X → Type 0) (xs : List X) → ((x : X) → IsIn x xs → P x) → Each P xs
each_from P [] h = tt
each_from P (x ∷ xs) h = (h x (inl refl), each_from P xs (λ y k. h y (inr k)))

each_at : {X : Type 0} (P : X → Type 0) (x : X) (xs : List X) → Each P xs → IsIn x xs → P x
each_at P x [] h k = absurd k
each_at P x (y ∷ ys) h (inl e) = subst P e h.0
each_at P x (y ∷ ys) h (inr k) = each_at P x ys h.1 k

-- a name that is found has a number among the names, and no name has the number of the first
number_below : (x : List ℕ) (names : List (List ℕ)) (n : ℕ) → 1 ≤ n → length names ≡ n → unwrap_or (found x names) 0 < n
number_below x names n some long = go (found x names) refl
  where
    go : (o : Option ℕ) → found x names ≡ o → unwrap_or o 0 < n
    go None e = omega (arith, some)
    go (Some k) e = let below = (position-Some (bytes_eq x) names k [] e).0 in omega (arith, below, long)

leaves_are_points : (ds : List NamedDimension) → AllByRecursion IsDimension ds → (header fields : List (List ℕ)) → IsPoint (map plain ds) (map (leaf_in header fields) ds)
leaves_are_points [] h header fields = tt
leaves_are_points (d ∷ ds) h header fields = (number_below (field_in header fields d.column) (members d 0) (length d.paths) (h.0).has_leaves (leaves_long d h.0), leaves_are_points ds h.1 header fields)
  where
    leaves_long : (d : NamedDimension) → IsDimension d → length (members d 0) ≡ length d.paths
    leaves_long d k = ap length k.distinct_leaves ∙ length-map d.paths (λ path. get_or path 0 [])

pub fact_rules : (s : Dims) (header fields : List (List ℕ)) (fact : Fact) → IsDims s → fact ≡ fact_of s header fields → All IsUnits fact.units → IsFact s fact
fact_rules s header fields fact rules is bounded = record {
  leaves = subst (IsPoint (plains s)) (sym (ap (λ (f : Fact). f.leaves) is)) (leaves_are_points s.dimensions rules.each_dimension header fields);
  long = ap (λ (f : Fact). length f.units) is ∙ length-map s.measures (units_in header fields);
  bounded = bounded;
}

-- ---- sums within bounds

past_end : (us : List ℤ) (m : ℕ) → length us ≤ m → get_or us m (pos 0) ≡ pos 0
past_end [] m l = refl
past_end (u ∷ us) zero l = absurd (omega (arith, l))
past_end (u ∷ us) (suc m) l = past_end us m (omega (arith, l))

nothing_fits : (x : ℤ) → x ≡ pos 0 → IsUnits x
nothing_fits x e = (omega (arith, ints, e), omega (arith, ints, e))

units_at : (us : List ℤ) (m : ℕ) → All IsUnits us → IsUnits (get_or us m (pos 0))
units_at us m h = tested (ltb m (length us))
    (λ t. (let l : m < length us = ltb-true m (length us) t in h m (pos 0) l))
    (λ f. (let l : length us ≤ m = ltb-false m (length us) f in nothing_fits (get_or us m (pos 0)) (past_end us m l)))

sum_bounded : (s : Dims) (m : ℕ) (fs : List Fact) → Each (IsFact s) fs → IsSumOf (length fs) (units_sum m fs)
sum_bounded s m [] h = (omega (arith, ints), omega (arith, ints))
sum_bounded s m (f ∷ fs) h =
    let here = units_at f.units m (h.0).bounded in
    let rest = sum_bounded s m fs h.1 in
    (omega (arith, ints, here.0, rest.0), omega (arith, ints, here.1, rest.1))

each_filter : {X : Type 0} (P : X → Type 0) (p : X → Bool) (xs : List X) → Each P xs → Each P (filter p xs)
each_filter P p xs h = each_from P (filter p xs) (λ x k. each_at P x xs h (IsIn-filter p x xs k).1)

at_bounded : (s : Dims) (facts : List Fact) (x : List ℕ) (m : ℕ) → Each (IsFact s) facts → IsSumOf (length (facts_at facts x)) (units_sum m (facts_at facts x))
at_bounded s facts x m h = sum_bounded s m (facts_at facts x) (each_filter (IsFact s) (λ f. same x f.leaves) facts h)

-- ---- the totals of the map

at_most : (facts : List Fact) (x : List ℕ) → length (facts_at facts x) ≤ length facts
at_most facts x = omega (arith, length-filter (λ (f : Fact). same x f.leaves) facts, count_by-le-length (λ (f : Fact). same x f.leaves) facts)

read_any : {Y : Type 0} (P : Y → Type 0) (g : List ℕ → Y) (d : Y) (xs : List (List ℕ)) (place : ℕ) → ((x : List ℕ) → P (g x)) → P d → P (get_or (map g xs) place d)
read_any P g d [] place all none = none
read_any P g d (x ∷ xs) zero all none = all x
read_any P g d (x ∷ xs) (suc place) all none = read_any P g d xs place all none

each_sum : (P : ℤ → Type 0) (g : ℕ → ℤ) (ms : List ℕ) → ((m : ℕ) → P (g m)) → AllByRecursion P (map g ms)
each_sum P g [] all = tt
each_sum P g (m ∷ ms) all = (all m, each_sum P g ms all)

both : (P : ℤ → Type 0) (xs ys : List ℤ) → AllByRecursion P xs → AllByRecursion P ys → AllByRecursion P (xs ++ ys)
both P [] ys a b = b
both P (x ∷ xs) ys a b = (a.0, both P xs ys a.1 b)

each_row : (P : ℤ → Type 0) (g : List ℕ → List ℤ) (xs : List (List ℕ)) → ((x : List ℕ) → AllByRecursion P (g x)) → AllByRecursion P (flat_map g xs)
each_row P g [] all = tt
each_row P g (x ∷ xs) all = both P (g x) (flat_map g xs) (all x) (each_row P g xs all)

sum_of_more : (n m : ℕ) (z : ℤ) → IsSumOf n z → n ≤ m → IsSumOf m z
sum_of_more n m z h l = (omega (arith, ints, h.0, l), omega (arith, ints, h.1, l))

point_within : (ds : List NamedDimension) (xs : List ℕ) → IsPoint (map plain ds) xs → IsWithin (map (λ d. length d.paths) ds) xs
point_within [] [] h = tt
point_within [] (x ∷ xs) h = absurd h
point_within (d ∷ ds) [] h = absurd h
point_within (d ∷ ds) (x ∷ xs) h = (h.0, point_within ds xs h.1)

most_combinations : ℕ → ℕ
most_combinations zero = 1
most_combinations (suc n) = 65536 * most_combinations n

combinations_below : (ds : List NamedDimension) (n : ℕ) → AllByRecursion IsDimension ds → length ds ≤ n → key_count (map (λ d. length d.paths) ds) ≤ most_combinations n
unfolding most_combinations
combinations_below [] zero h l = omega arith
combinations_below [] (suc n) h l = let rest = combinations_below [] n h (omega arith) in omega (arith, rest)
combinations_below (d ∷ ds) zero h l = absurd (omega (arith, l))
combinations_below (d ∷ ds) (suc n) h l = mul-le-mul (h.0).few_leaves (combinations_below ds n h.1 (omega (arith, l)))

-- ranks of points are few enough
pub reads_combinations : (s : Dims) (all : List (List (List ℕ))) (header : List (List ℕ)) (points : Points) (count : ℕ) (left : List (List (List ℕ))) → Reads s all header points count left → IsDims s → key_count points.sizes.items ≤ 2 ^ 128
unfolding most_combinations
reads_combinations s all header points count left r rules = subst (λ ss. key_count ss ≤ 2 ^ 128) (sym r.gathers.sizes) (combinations_below s.dimensions 8 rules.each_dimension rules.few_dimensions)

pub reads_within : (s : Dims) (all : List (List (List ℕ))) (header : List (List ℕ)) (points : Points) (count : ℕ) (left : List (List (List ℕ))) (fact : Fact) → Reads s all header points count left → IsFact s fact → IsWithin points.sizes.items fact.leaves
reads_within s all header points count left fact r is = subst (λ ss. IsWithin ss fact.leaves) (sym r.gathers.sizes) (point_within s.dimensions fact.leaves is.leaves)

pub reads_fits : (s : Dims) (all : List (List (List ℕ))) (header : List (List ℕ)) (points : Points) (count : ℕ) (left : List (List (List ℕ))) (fact : Fact) → Reads s all header points count left → IsDims s → IsFact s fact → count < 1000000 → Fits points count fact.leaves fact.units
reads_fits s all header points count left fact r rules is few =
    let facts = map (fact_of s header) r.earlier in
    let long : length facts ≡ count = length-map r.earlier (fact_of s header) ∙ sym r.counted in
    let g = r.gathers in
    record {
      few = few;
      point = reads_within s all header points count left fact r is;
      combinations = reads_combinations s all header points count left r rules;
      facts = λ place. subst (λ (ns : List ℕ). get_or ns place 0 < 1000000) (sym g.facts_are)
          (read_any (λ n. n < 1000000) (λ x. length (facts_at facts x)) 0 points.leaves place (λ x. (let most = at_most facts x in omega (arith, most, long, few))) (omega arith));
      sums = subst (All (IsSumOf count)) (sym g.sums)
          (All-from_recursion (IsSumOf count) (flat_map (sums_of (length s.measures) facts) points.leaves)
          (each_row (IsSumOf count) (sums_of (length s.measures) facts) points.leaves (λ x. each_sum (IsSumOf count) (λ m. units_sum m (facts_at facts x)) (count_from 0 (length s.measures))
          (λ m. (let most = at_most facts x in sum_of_more (length (facts_at facts x)) count (units_sum m (facts_at facts x)) (at_bounded s facts x m r.facts.each) (omega (arith, most, long)))))));
      rows = λ place below. (
          let counted = ap length g.facts_are ∙ length-map points.leaves (λ x. length (facts_at facts x)) in
          let all = ap length g.sums ∙ rows_long (length s.measures) facts points.leaves in
          let fits = row_fits place (length s.measures) (length points.leaves) (length s.measures) (omega (arith, below, counted)) (omega arith) in
          subst (λ (k : ℕ). place * k + k ≤ length points.sums.items) (sym is.long) (omega (arith, fits, all)));
      bounded = is.bounded;
    }

-- ---- from the columns to the shape and the cube

map_alike : {X Y : Type 0} (f g : X → Y) (xs : List X) → ((x : X) → IsIn x xs → f x ≡ g x) → map f xs ≡ map g xs
map_alike f g [] h = refl
map_alike f g (x ∷ xs) h = ap₂ (λ y ys. y ∷ ys) (h x (inl refl)) (map_alike f g xs (λ y k. h y (inr k)))

pub counts_long : (s : Dims) (facts : List Fact) (points : Points) (order : List ℕ) → Gathers s facts points → Orders facts points order → All (λ place. place < length points.facts.items) order
counts_long s facts points order g o =
    let long = ap length g.facts_are ∙ length-map points.leaves (λ x. length (facts_at facts x)) in
    λ i d l. (let below = o.below i d l in omega (arith, below, long))

pub sums_long : (s : Dims) (facts : List Fact) (points : Points) (order : List ℕ) → Gathers s facts points → Orders facts points order
    → (m : ℕ) → m < points.measures → All (λ place. place * points.measures + m < length points.sums.items) order
sums_long s facts points order g o m below i d l =
    let n = points.measures in
    let all = ap length g.sums ∙ rows_long (length s.measures) facts points.leaves ∙ ap (λ (k : ℕ). length points.leaves * k) (sym g.measures) in
    let fits = row_fits (get_or order i d) n (length points.leaves) n (o.below i d l) (omega arith) in
    omega (arith, all, fits, below)

pub shape_filled : (s : Dims) (facts : List Fact) (points : Points) (order : List ℕ) (shape : Shape) → Gathers s facts points → Orders facts points order
    → shape.points ≡ map (λ place. get_or points.leaves place []) order → shape.facts ≡ map (λ place. get_or points.facts.items place 0) order → shape ≡ shape_of facts
shape_filled s facts points order shape g o points_are facts_are = ap₂ (λ (p : List (List ℕ)) (c : List ℕ). record { points = p; facts = c })
    (points_are ∙ o.points)
    (facts_are ∙ ap (λ (ns : List ℕ). map (λ place. get_or ns place 0) order) g.facts_are ∙ put_in_order (λ x. length (facts_at facts x)) 0 facts points order o)

pub cube_filled : (s : Dims) (facts : List Fact) (points : Points) (order : List ℕ) (cube : List (List ℤ)) → Gathers s facts points → Orders facts points order
    → cube ≡ map (λ m. map (λ place. get_or points.sums.items (place * points.measures + m) (pos 0)) order) (count_from 0 points.measures) → cube ≡ cube_of s facts
cube_filled s facts points order cube g o is =
    is ∙ ap₂ (λ (n : ℕ) (sums : List ℤ). map (λ m. map (λ place. get_or sums (place * n + m) (pos 0)) order) (count_from 0 n)) g.measures g.sums
    ∙ map_alike (λ m. map (λ place. get_or (flat_map (sums_of (length s.measures) facts) points.leaves) (place * length s.measures + m) (pos 0)) order) (λ m. map (λ x. units_sum m (facts_at facts x)) (points_of facts)) (count_from 0 (length s.measures))
    (λ m h. column m (below m (length s.measures) (IsIn-count_from m 0 (length s.measures) h).1))
  where
    below : (m n : ℕ) → m < 0 + n → m < n
    below m n l = omega (arith, l)

    read : (m : ℕ) → m < length s.measures → (ps : List ℕ) → AllByRecursion (λ place. place < length points.leaves) ps
        → map (λ place. get_or (flat_map (sums_of (length s.measures) facts) points.leaves) (place * length s.measures + m) (pos 0)) ps ≡ map (λ x. units_sum m (facts_at facts x)) (map (λ place. get_or points.leaves place []) ps)
    read m l [] b = refl
    read m l (p ∷ ps) b = ap₂ (λ y ys. y ∷ ys) (sum_read (length s.measures) facts points.leaves p m b.0 l) (read m l ps b.1)

    column : (m : ℕ) → m < length s.measures → map (λ place. get_or (flat_map (sums_of (length s.measures) facts) points.leaves) (place * length s.measures + m) (pos 0)) order ≡ map (λ x. units_sum m (facts_at facts x)) (points_of facts)
    column m l = read m l order (recursion_from_All (λ place. place < length points.leaves) order o.below) ∙ ap (map (λ x. units_sum m (facts_at facts x))) o.points

-- ---- the core

sum_cons : (x : ℕ) (xs : List ℕ) → sum (x ∷ xs) ≡ x + sum xs
sum_cons x xs = sum_by-cons (λ n. n) x xs

-- one for the point at hand, and none elsewhere
abbrev one_at : List ℕ → List ℕ → ℕ
one_at k x = cond (same x k) 1 0

before_itself : (x : List ℕ) → before x x ≡ false
before_itself [] = refl
before_itself (a ∷ x) =
    let less : ltb a a ≡ false = le-ltb a a (omega arith) in
    rw (less, before_itself x) (and_right (eqb a a) false refl)

none_later : (k : List ℕ) (xs : List (List ℕ)) → list_all (before k) xs ≡ true → sum (map (one_at k) xs) ≡ 0
none_later k [] h = refl
none_later k (x ∷ xs) h =
    let parts = and_parts (before k x) (list_all (before k) xs) h in
    let other : same x k ≡ false = false_from_ne_true (same x k) (λ t. false≢true (sym (before_itself k) ∙ ap (before k) (sym (same_eq x k t)) ∙ parts.0)) in
    let rest = none_later k xs parts.1 in
    let zero_here : one_at k x ≡ 0 = rw other refl in
    let all = sum_cons (one_at k x) (map (one_at k) xs) in
    omega (arith, rest, zero_here, all)

at_most_one : (k : List ℕ) (xs : List (List ℕ)) → IsIncreasing xs → sum (map (one_at k) xs) ≤ 1
at_most_one k [] h = omega arith
at_most_one k (x ∷ xs) h =
    let all = sum_cons (one_at k x) (map (one_at k) xs) in
    tested (same x k)
    (λ t. (
    let rest = none_later k xs (subst (λ y. list_all (before y) xs ≡ true) (same_eq x k t) h.0) in
    let one : ℕ = 1 in
    let here : one_at k x ≡ one = rw t refl in
    omega (arith, all, rest, here)))
    (λ f. (
    let rest = at_most_one k xs h.1 in
    let here : one_at k x ≡ 0 = rw f refl in
    omega (arith, all, rest, here)))

one_more_fact : (f : Fact) (fs : List Fact) (x : List ℕ) → length (facts_at (f ∷ fs) x) ≡ one_at f.leaves x + length (facts_at fs x)
one_more_fact f fs x = tested (same x f.leaves) (λ t. rw t (omega arith)) (λ t. rw t (omega arith))

sum_of_two : (g h k : List ℕ → ℕ) (xs : List (List ℕ)) → ((x : List ℕ) → g x ≡ h x + k x) → sum (map g xs) ≡ sum (map h xs) + sum (map k xs)
sum_of_two g h k [] e = refl
sum_of_two g h k (x ∷ xs) e =
    let rest = sum_of_two g h k xs e in
    omega (arith, rest, e x, sum_cons (g x) (map g xs), sum_cons (h x) (map h xs), sum_cons (k x) (map k xs))

no_facts : (xs : List (List ℕ)) → sum (map (λ x. length (facts_at [] x)) xs) ≡ 0
no_facts [] = refl
no_facts (x ∷ xs) = let rest = no_facts xs in omega (arith, rest, sum_cons 0 (map (λ x. length (facts_at [] x)) xs))

-- each fact is counted at one point at most
counted_once : (xs : List (List ℕ)) (facts : List Fact) → IsIncreasing xs → sum (map (λ x. length (facts_at facts x)) xs) ≤ length facts
counted_once xs [] h = let none = no_facts xs in omega (arith, none)
counted_once xs (f ∷ fs) h =
    let rest = counted_once xs fs h in
    let one = at_most_one f.leaves xs h in
    let both = sum_of_two (λ x. length (facts_at (f ∷ fs) x)) (one_at f.leaves) (λ x. length (facts_at fs x)) xs (one_more_fact f fs) in
    omega (arith, rest, one, both)

some_there : {X : Type 0} (x : X) (xs : List X) → IsIn x xs → 0 < length xs
some_there x [] h = absurd h
some_there x (y ∷ ys) h = omega arith

-- each point is that of a fact
fact_there : (facts : List Fact) (x : List ℕ) → IsIn x (points_of facts) → (f : Fact) × (IsIn f facts) × (f.leaves ≡ x)
fact_there facts x h = IsIn-map (λ (f : Fact). f.leaves) x facts (IsIn-in_order x (map (λ (f : Fact). f.leaves) facts) h)

columns_bounded : (s : Dims) (facts : List Fact) (m : ℕ) → Each (IsFact s) facts → AreSumsOf (map (λ x. length (facts_at facts x)) (points_of facts)) (map (λ x. units_sum m (facts_at facts x)) (points_of facts))
columns_bounded s facts m h i l =
    let within : i < length (points_of facts) = omega (arith, l, length-map (points_of facts) (λ x. units_sum m (facts_at facts x))) in
    subst (λ n. IsSumOf n (get_or (map (λ x. units_sum m (facts_at facts x)) (points_of facts)) i (pos 0))) (sym (get_or-map (λ x. length (facts_at facts x)) (points_of facts) i [] 0 within))
    (subst (IsSumOf (length (facts_at facts (get_or (points_of facts) i [])))) (sym (get_or-map (λ x. units_sum m (facts_at facts x)) (points_of facts) i [] (pos 0) within))
    (at_bounded s facts (get_or (points_of facts) i []) m h))

-- what the facts of a file fill is a core
pub core_of_facts : (s : Dims) (facts : List Fact) → IsDims s → AreFacts s facts → IsCore (record { dims = s; shape = shape_of facts; cube = cube_of s facts })
core_of_facts s facts rules are = record {
  dims = rules;
  points = each_from (IsPoint (plains s)) (points_of facts) (λ x h. (let f = fact_there facts x h in subst (IsPoint (plains s)) f.2 (each_at (IsFact s) f.0 facts are.each f.1).leaves));
  increasing = in_order_increasing (map (λ (f : Fact). f.leaves) facts);
  few_points = are.few_points;
  facts = length-map (points_of facts) (λ x. length (facts_at facts x));
  counted = each_from (λ n. 0 < n) (map (λ x. length (facts_at facts x)) (points_of facts)) (λ n h. (
      let x = IsIn-map (λ x. length (facts_at facts x)) n (points_of facts) h in
      let f = fact_there facts x.0 x.1 in
      let here : same x.0 (f.0).leaves ≡ true = ap (λ y. same y (f.0).leaves) (sym f.2) ∙ same_refl (f.0).leaves in
      subst (λ k. 0 < k) x.2 (some_there f.0 (facts_at facts x.0) (filter_has (λ g. same x.0 g.leaves) f.0 facts here f.1))));
  few_facts = (let all = counted_once (points_of facts) facts (in_order_increasing (map (λ (f : Fact). f.leaves) facts)) in omega (arith, all, are.few));
  measures = length-map (count_from 0 (length s.measures)) (λ m. map (λ x. units_sum m (facts_at facts x)) (points_of facts)) ∙ count_long 0 (length s.measures);
  values = each_from (λ (values : List ℤ). length values ≡ length (points_of facts)) (cube_of s facts) (λ column h. (
      let m = IsIn-map (λ m. map (λ x. units_sum m (facts_at facts x)) (points_of facts)) column (count_from 0 (length s.measures)) h in
      ap length (sym m.2) ∙ length-map (points_of facts) (λ x. units_sum m.0 (facts_at facts x))));
  bounded = each_from (AreSumsOf (map (λ x. length (facts_at facts x)) (points_of facts))) (cube_of s facts) (λ column h. (
      let m = IsIn-map (λ m. map (λ x. units_sum m (facts_at facts x)) (points_of facts)) column (count_from 0 (length s.measures)) h in
      subst (AreSumsOf (map (λ x. length (facts_at facts x)) (points_of facts))) m.2 (columns_bounded s facts m.0 are.each)));
}
