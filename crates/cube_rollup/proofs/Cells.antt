-- What a cuboid that stands for a core has: points, sums that fit, and the rows of a request.
use Rattle.std.specs.List.{list_all, sum, sum_by, All, AllByRecursion}
use Rattle.std.proofs.Common.{◌≡◌, ℕ, zero, suc, ◌<◌, ◌≤◌, inl, inr, Bool, true, false, cond, ◌&&◌, List, [], ◌∷◌, length, map, filter, take, get_or, Option, None, Some, is_none, ℤ, pos, refl, sym, ap, ap₂, ◌∙◌, subst, arith, leb}
use Rattle.std.proofs.lemmas.Bool.{false≢true, and_parts, and_from}
use Rattle.std.proofs.lemmas.List.{length-map}
use Rattle.std.proofs.lemmas.List.Sums.{sum-map, sum_by-cons}
use Rattle.cube_model.specs.declared.answer.AnswerRow.{AnswerRow}
use Rattle.cube_model.specs.declared.answer.Row.{Row}
use Rattle.cube_model.specs.declared.policy.Policy.{Policy}
use Rattle.cube_model.specs.declared.request.Pick.{Pick}
use Rattle.cube_model.specs.declared.request.Request.{Request}
use Rattle.cube_model.specs.declared.request.What.{What}
use Rattle.cube_model.specs.declared.request.What.TheVariants.{Count, Measure}
use Rattle.cube_model.specs.Cores.{Core, IsCore, IsSumOf, AreSumsOf, shown, world}
use Rattle.cube_model.specs.Cubes.{Dimension, Public, World, same, in_order, with_key, before, count_from, places, point, key_at, are_levels, is_finer, Each, IsIn, IsPoint, IsHierarchy}
use Rattle.cube_model.specs.Dims.{Dims, NamedDimension, plain, plains, IsDimension}
use Rattle.cube_model.specs.Requests.{is_picked, in_picks, in_row, row_keys, row_at, rows, total, values, summed, answer, grain, fits, asks, is_measure}
use Rattle.cube_model.proofs.Members.{same_eq, IsIn-filter, map_has}
use Rattle.cube_model.proofs.Orders.{in_order_has, in_order_increasing}
use Rattle.cube_model.proofs.Sources.{Each-get_or, place_below}
use Rattle.cube_model.proofs.Sums.{gather}
use Rattle.std.proofs.lemmas.Bool.{eqb-true}
use Rattle.cube_core.specs.Grouping.{pointed, grouped, key_in, picked_in, row_with, ArePoints}
use Rattle.cube_core.specs.Rows.{ArePlaces}
use Rattle.cube_core.proofs.Grouped.{rows_all}
use Rattle.cube_core.proofs.Tallied.{total_bound}
use Rattle.cube_core.proofs.Totals.{IsMore, sum_more, facts_less, from_increasing, few_at_places, value_bound, place_below as item_below, ArePlaces-filter}
use Rattle.cube_rollup.specs.Cuboids.{Cuboid, cell_keys, covered_at, summed_cell, first_point, IsCuboidOf, sums_of, whole, takes_all, first_of_row, AreRowsOf}
use Rattle.cube_core.specs.Tallies.{AreBounded, summed_row}
use Rattle.cube_rollup.proofs.Sums.{at_key, partition_all, gather-pos, over-pos, over_alike, sum_by-ones, pos_same, filter_true}
use Rattle.cube_rollup.proofs.Unions.{cells_of, first_place, is_first, has_cell, cell_sum, CanAnswer, rows_from_cells}

-- ---- sums of cells fit

-- one cell more
pub next : (cells : List AnswerRow) (places items : List ℕ) (k : ℕ) (s v : ℤ) (b : AreBounded (sums_of cells)) → ArePlaces (length cells) places → items ≡ places → k < length items
    → v ≡ get_or (sums_of cells) (get_or items k 0) (pos 0) → s ≡ total (sums_of cells) (take k places) → IsSumOf (sum_by (λ i. get_or b.facts i 0) (take k places)) s
    → IsMore b.facts places (sums_of cells) k s v
next cells places items k s v b are e l value so_far bound =
    let long = b.long in
    let size = length-map cells (λ (cell : AnswerRow). cell.sum) in
    let at = item_below (length cells) places items k are e l in
    let below : All (λ i. i < length b.facts) places = λ j d m. (let o = are.below j d m in omega (arith, o, long, size)) in
    let less = facts_less b.facts 0 places (from_increasing 0 places are.increasing (λ _. omega arith)) below in
    let few = b.few in
    let own = subst (IsSumOf (get_or b.facts (get_or items k 0) 0)) (sym value) (b.bounded (get_or items k 0) (omega (arith, at, size))) in
    sum_more b.facts places items (sums_of cells) k s v e l (omega (arith, less, few)) bound own value so_far

-- ---- keys

length-with_key : (k : List ℕ) (ks : List (List ℕ)) → length (with_key k ks) ≤ suc (length ks)
length-with_key k [] = omega arith
length-with_key k (j ∷ ks) = go (same k j) (before k j) (length-with_key k ks)
  where
    go : (a b : Bool) → length (with_key k ks) ≤ suc (length ks) → length (cond a (j ∷ ks) (cond b (k ∷ j ∷ ks) (j ∷ with_key k ks))) ≤ suc (suc (length ks))
    go true b r = omega arith
    go false true r = omega arith
    go false false r = omega (arith, r)

length-in_order : (ks : List (List ℕ)) → length (in_order ks) ≤ length ks
length-in_order [] = omega arith
length-in_order (k ∷ ks) = let a = length-with_key k (in_order ks) in let b = length-in_order ks in omega (arith, a, b)

length-places : (s n : ℕ) → length (count_from s n) ≡ n
length-places s zero = refl
length-places s (suc n) = ap suc (length-places (suc s) n)

-- there are no more cells than places
pub few_keys : (g : Public) (levels : List ℕ) → length (cell_keys g levels) ≤ length g.shape.points
few_keys g levels =
    let a = length-in_order (map (key_at g levels) (places g)) in
    let b = length-map (places g) (key_at g levels) in
    let c = length-places 0 (length g.shape.points) in
    omega (arith, a, b, c)

-- ---- the points of a cuboid

each_map : {X Y : Type 0} (P : Y → Type 0) (f : X → Y) (xs : List X) → ((x : X) → IsIn x xs → P (f x)) → Each P (map f xs)
each_map P f [] h = tt
each_map P f (x ∷ xs) h = (h x (inl refl), each_map P f xs (λ y m. h y (inr m)))

pub no_policy : Policy
no_policy = record { methods = []; objects = [] }

pub points_of : (c : Core) (s : Cuboid) → IsCuboidOf c s → ArePoints (plains c.dims) s.points
points_of c s h =
    let g : Public = shown c no_policy in
    let few = h.rules.few_points in
    let n = few_keys g s.levels in
    let size = ap length (h.points no_policy) ∙ length-map (cell_keys g s.levels) (first_point g s.levels) in
    record {
      each = subst (Each (IsPoint (plains c.dims))) (sym (h.points no_policy)) (each_map (IsPoint (plains c.dims)) (first_point g s.levels) (cell_keys g s.levels) (λ k m. (
          let a = is_first g s.levels k m in
          Each-get_or (IsPoint (plains c.dims)) c.shape.points (first_place g s.levels k) [] h.rules.points (place_below g (first_place g s.levels k) a.place))));
      few = omega (arith, few, n, size);
    }

pub as_many : (c : Core) (s : Cuboid) → IsCuboidOf c s → length s.points ≡ length s.cells
as_many c s h =
    let g : Public = shown c no_policy in
    ap length (h.points no_policy) ∙ length-map (cell_keys g s.levels) (first_point g s.levels)
    ∙ sym (ap length (h.cells no_policy) ∙ length-map (cell_keys g s.levels) (summed_cell (world c no_policy) s.measure s.levels))

-- ---- rows

pub each_of : {X : Type 0} (P : X → Type 0) (xs : List X) → All P xs → AllByRecursion P xs
each_of P [] h = tt
each_of P (x ∷ xs) h = (h 0 x (omega arith), each_of P xs (λ k d l. h (suc k) d (omega (arith, l))))

-- a place stands in at most one row
pub few_in_rows : (c : Core) (r : Request) (p : Policy) → sum_by (λ (row : Row). length row.places) (rows (shown c p) r) ≤ length c.shape.points
few_in_rows c r p =
    let all : List ℕ = filter (picked_in c r) (count_from 0 (length c.shape.points)) in
    let e = ap (sum_by (λ (row : Row). length row.places)) (sym (rows_all c r p)) ∙ once (key_in c r) all in
    let few = length-filter (picked_in c r) (count_from 0 (length c.shape.points)) in
    let n = length-places 0 (length c.shape.points) in
    omega (arith, e, few, n)
  where
    length-filter : (t : ℕ → Bool) (xs : List ℕ) → length (filter t xs) ≤ length xs
    length-filter t [] = omega arith
    length-filter t (x ∷ xs) = go (t x) (length-filter t xs)
      where
        go : (b : Bool) → length (filter t xs) ≤ length xs → length (cond b (x ∷ filter t xs) (filter t xs)) ≤ suc (length xs)
        go true l = omega (arith, l)
        go false l = omega (arith, l)

    by_rows : (f : ℕ → List ℕ) (xs : List ℕ) (ks : List (List ℕ)) → sum_by (λ (row : Row). length row.places) (map (row_with f xs) ks) ≡ sum_by (λ k. length (filter (λ i. same (f i) k) xs)) ks
    by_rows f xs [] = refl
    by_rows f xs (k ∷ ks) =
        let a = sum_by-cons (λ (row : Row). length row.places) (row_with f xs k) (map (row_with f xs) ks) in
        let b = sum_by-cons (λ k. length (filter (λ i. same (f i) k) xs)) k ks in
        let r = by_rows f xs ks in
        omega (arith, a, b, r)

    ones : (is : List ℕ) → gather (λ i. pos 1) is ≡ pos (length is)
    ones is = gather-pos (λ i. 1) is ∙ ap pos (sum_by-ones is)

    once : (f : ℕ → List ℕ) (xs : List ℕ) → sum_by (λ (row : Row). length row.places) (grouped f xs) ≡ length xs
    once f xs = by_rows f xs (in_order (map f xs)) ∙ pos_same (sum_by (λ k. length (filter (λ i. same (f i) k) xs)) (in_order (map f xs))) (length xs) (
        sym (over-pos (λ k. length (filter (λ i. same (f i) k) xs)) (in_order (map f xs)))
        ∙ over_alike (λ k. pos (length (filter (λ i. same (f i) k) xs))) (at_key f (λ i. pos 1) xs) (in_order (map f xs)) (λ k. sym (ones (filter (λ i. same (f i) k) xs)))
        ∙ partition_all f (λ i. pos 1) xs (in_order (map f xs)) (in_order_increasing (map f xs)) (λ i m. in_order_has (f i) (map f xs) (map_has f i xs m))
        ∙ ones xs)

-- ---- the answer

what_is : (m : ℕ) (w : What) → is_measure m w ≡ true → w ≡ Measure m
what_is m Count e = absurd (false≢true e)
what_is m (Measure k) e = ap Measure (eqb-true k m e)

hierarchies : (ds : List NamedDimension) → AllByRecursion IsDimension ds → Each IsHierarchy (map plain ds)
hierarchies [] h = tt
hierarchies (d ∷ ds) h = (h.0.one_parent, hierarchies ds h.1)

answer_rows : (w : World) (r : Request) (vs : List ℤ) → summed w r.what ≡ vs → answer w r ≡ map (summed_row vs) (rows w.shown r)
answer_rows w r vs e = ap (λ (l : List ℤ). map (summed_row l) (rows w.shown r)) e

sums_are : (w : World) (m : ℕ) (levels : List ℕ) (ks : List (List ℕ)) → sums_of (map (summed_cell w m levels) ks) ≡ map (cell_sum w.shown (values w m) levels) ks
sums_are w m levels [] = refl
sums_are w m levels (k ∷ ks) = ap (λ (l : List ℤ). cell_sum w.shown (values w m) levels k ∷ l) (sums_are w m levels ks)

cells_pointed : (c : Core) (levels : List ℕ) (r : Request) (p : Policy) → rows (shown (pointed c.dims (map (first_point (shown c p) levels) (cell_keys (shown c p) levels))) p) r ≡ rows (cells_of (shown c p) levels) r
cells_pointed c levels r p = refl

-- the rows of the cells of a cuboid that stands for a core, with their sums, are the answer
pub answer_is : (c : Core) (s : Cuboid) (d : Dims) (points : List (List ℕ)) (r : Request) (p : Policy) (all : List Row) → IsCuboidOf c s → c.dims ≡ d → points ≡ s.points → asks s.measure r ≡ true → fits (plains d) r.group r.picks ≡ true → is_finer s.levels (grain r) ≡ true
    → all ≡ rows (shown (pointed d points) p) r → map (summed_row (sums_of s.cells)) all ≡ answer (world c p) r
answer_is c s d points r p all h same_dims same_points asked fit finer is =
    let g : Public = shown c p in
    let vs : List ℤ = values (world c p) s.measure in
    let can : CanAnswer g s.levels r = record {
      hierarchies = hierarchies c.dims.dimensions h.rules.dims.each_dimension;
      points = h.rules.points;
      fitting = subst (λ (x : Dims). fits (plains x) r.group r.picks ≡ true) (sym same_dims) fit;
      finer = finer;
    } in
    let own_rows : all ≡ rows (cells_of g s.levels) r = is ∙ ap (λ (x : Dims). rows (shown (pointed x points) p) r) (sym same_dims) ∙ ap (λ (xs : List (List ℕ)). rows (shown (pointed c.dims xs) p) r) (same_points ∙ h.points p) ∙ cells_pointed c s.levels r p in
    let own_sums : sums_of s.cells ≡ map (cell_sum g vs s.levels) (cell_keys g s.levels) = ap sums_of (h.cells p) ∙ sums_are (world c p) s.measure s.levels (cell_keys g s.levels) in
    ap₂ (λ (l : List ℤ) (rs : List Row). map (summed_row l) rs) own_sums own_rows
    ∙ rows_from_cells g s.levels r vs can
    ∙ sym (answer_rows (world c p) r vs (ap (summed (world c p)) (what_is s.measure r.what asked)))

-- ---- the cells of a core

whole_fits_at : (ds : List Dimension) (ls : List ℕ) → are_levels ds ls ≡ true → fits ds ls (map (λ (l : ℕ). None) ls) ≡ true
whole_fits_at [] [] e = refl
whole_fits_at [] (l ∷ ls) e = absurd (false≢true e)
whole_fits_at (d ∷ ds) [] e = absurd (false≢true e)
whole_fits_at (d ∷ ds) (l ∷ ls) e = let p = and_parts (leb l d.levels) (are_levels ds ls) e in and_from (leb l d.levels) (fits ds ls (map (λ (l : ℕ). None) ls)) p.0 (whole_fits_at ds ls p.1)

-- the request of all places fits
pub whole_fits : (d : Dims) (m : ℕ) (levels : List ℕ) (r : Request) → are_levels (plains d) levels ≡ true → r ≡ whole m levels → fits (plains d) r.group r.picks ≡ true
whole_fits d m levels r e is = ap (λ (q : Request). fits (plains d) q.group q.picks) is ∙ whole_fits_at (plains d) levels e

-- and picks nothing
whole_unpicked : (levels : List ℕ) → list_all is_none (map (λ (l : ℕ). let p : Option Pick = None in p) levels) ≡ true
whole_unpicked [] = refl
whole_unpicked (l ∷ ls) = whole_unpicked ls

-- a request that picks nothing takes every place
all_in_picks : (ds : List Dimension) (ps : List (Option Pick)) (xs : List ℕ) → list_all is_none ps ≡ true → in_picks ds ps xs ≡ true
all_in_picks [] ps xs e = refl
all_in_picks (d ∷ ds) [] xs e = refl
all_in_picks (d ∷ ds) (None ∷ ps) [] e = refl
all_in_picks (d ∷ ds) (None ∷ ps) (x ∷ xs) e = all_in_picks ds ps xs e
all_in_picks (d ∷ ds) (Some p ∷ ps) xs e = absurd (false≢true e)

all_picked : (g : Public) (r : Request) (i : ℕ) → list_all is_none r.picks ≡ true → is_picked g r i ≡ true
unfolding is_picked
all_picked g r i e = all_in_picks g.dimensions r.picks (point g i) e

filter_same : {X : Type 0} (p q : X → Bool) (xs : List X) → ((x : X) → p x ≡ q x) → filter p xs ≡ filter q xs
filter_same p q [] h = refl
filter_same p q (x ∷ xs) h = rw (h x, filter_same p q xs h) refl

all_keys : (g : Public) (r : Request) → list_all is_none r.picks ≡ true → row_keys g r ≡ cell_keys g r.group
all_keys g r e = ap (λ is. in_order (map (key_at g r.group) is)) (filter_same (is_picked g r) (λ i. true) (places g) (λ i. all_picked g r i e) ∙ filter_true (places g))

all_row : (g : Public) (r : Request) (key : List ℕ) → list_all is_none r.picks ≡ true → (row_at g r key).places ≡ covered_at g r.group key
all_row g r key e = filter_same (in_row g r key) (λ i. same (key_at g r.group i) key) (places g) (λ i. ap (λ b. b && same (key_at g r.group i) key) (all_picked g r i e))

-- the rows of all places, cell by cell
abbrev pub cell_row : Public → List ℕ → List ℕ → Row
cell_row g levels key = record { key = key; places = covered_at g levels key }

-- the rows of a request that picks nothing are the cells at its levels
all_rows : (g : Public) (r : Request) → list_all is_none r.picks ≡ true → rows g r ≡ map (cell_row g r.group) (cell_keys g r.group)
all_rows g r e = each (row_keys g r) ∙ ap (map (cell_row g r.group)) (all_keys g r e)
  where
    each : (ks : List (List ℕ)) → map (row_at g r) ks ≡ map (cell_row g r.group) ks
    each [] = refl
    each (k ∷ ks) = ap₂ (λ (is : List ℕ) (rs : List Row). record { key = k; places = is } ∷ rs) (all_row g r k e) (each ks)

pub whole_rows : (g : Public) (m : ℕ) (levels : List ℕ) → rows g (whole m levels) ≡ map (cell_row g levels) (cell_keys g levels)
whole_rows g m levels = all_rows g (whole m levels) (whole_unpicked levels)

all_by : {X Y : Type 0} (P : Y → Type 0) (f : X → Y) (xs : List X) → ((x : X) → IsIn x xs → P (f x)) → AllByRecursion P (map f xs)
all_by P f [] h = tt
all_by P f (x ∷ xs) h = (h x (inl refl), all_by P f xs (λ y m. h y (inr m)))

-- each has a place
pub are_rows : (c : Core) (m : ℕ) (levels : List ℕ) (r : Request) (all : List Row) → r ≡ whole m levels → ((p : Policy) → all ≡ rows (shown c p) r) → AllByRecursion (AreRowsOf (length c.shape.points)) all
are_rows c m levels r all request is =
    let g : Public = shown c no_policy in
    let whole_is = is no_policy ∙ ap (rows g) request ∙ whole_rows g m levels in
    subst (AllByRecursion (AreRowsOf (length c.shape.points))) (sym whole_is) (all_by (AreRowsOf (length c.shape.points)) (cell_row g levels) (cell_keys g levels) (λ k i. record {
      places = ArePlaces-filter (λ i. same (key_at g levels i) k) (length c.shape.points);
      some = (is_first g levels k i).some;
    }))

-- cells and points of the rows of all places
same_cells : (w : World) (m : ℕ) (levels : List ℕ) (ks : List (List ℕ)) → map (summed_row (values w m)) (map (cell_row w.shown levels) ks) ≡ map (summed_cell w m levels) ks
same_cells w m levels [] = refl
same_cells w m levels (k ∷ ks) = ap (λ (l : List AnswerRow). summed_cell w m levels k ∷ l) (same_cells w m levels ks)

same_points : (c : Core) (p : Policy) (levels : List ℕ) (ks : List (List ℕ)) → map (first_of_row c) (map (cell_row (shown c p) levels) ks) ≡ map (first_point (shown c p) levels) ks
same_points c p levels [] = refl
same_points c p levels (k ∷ ks) = ap (λ (l : List (List ℕ)). first_point (shown c p) levels k ∷ l) (same_points c p levels ks)

-- what is made of the rows of all places stands for the core
pub stands : (c : Core) (m : ℕ) (levels : List ℕ) (r : Request) (all : List Row) (s : Cuboid) → IsCore c → are_levels (plains c.dims) levels ≡ true → m < length c.dims.measures → r ≡ whole m levels → ((p : Policy) → all ≡ rows (shown c p) r)
    → s ≡ record { levels = levels; measure = m; cells = map (summed_row (get_or c.cube m [])) all; points = map (first_of_row c) all } → IsCuboidOf c s
stands c m levels r all s ok e l request is made = subst (IsCuboidOf c) (sym made) (record {
  rules = ok;
  levels = e;
  measure = l;
  cells = λ p. ap (map (summed_row (get_or c.cube m []))) (is p ∙ ap (rows (shown c p)) request ∙ whole_rows (shown c p) m levels) ∙ same_cells (world c p) m levels (cell_keys (shown c p) levels);
  points = λ p. ap (map (first_of_row c)) (is p ∙ ap (rows (shown c p)) request ∙ whole_rows (shown c p) m levels) ∙ same_points c p levels (cell_keys (shown c p) levels);
})

-- the cells of a cuboid that stands for a core, as they stand, are the answer to a request that takes them all
pub kept_is : (c : Core) (s : Cuboid) (r : Request) (p : Policy) → IsCuboidOf c s → asks s.measure r ≡ true → takes_all s.levels r ≡ true → s.cells ≡ answer (world c p) r
kept_is c s r p h asked taken =
    let g : Public = shown c p in
    let w : World = world c p in
    let parts = and_parts (same s.levels r.group) (list_all is_none r.picks) taken in
    h.cells p
    ∙ ap (λ (ls : List ℕ). map (summed_cell w s.measure ls) (cell_keys g ls)) (same_eq s.levels r.group parts.0)
    ∙ sym (same_cells w s.measure r.group (cell_keys g r.group))
    ∙ ap (map (summed_row (values w s.measure))) (sym (all_rows g r parts.1))
    ∙ sym (answer_rows w r (values w s.measure) (ap (summed w) (what_is s.measure r.what asked)))

pub few_cells : (c : Core) (s : Cuboid) → IsCuboidOf c s → length s.cells ≤ 65536
few_cells c s h =
    let g : Public = shown c no_policy in
    let few = h.rules.few_points in
    let n = few_keys g s.levels in
    let size = ap length (h.cells no_policy) ∙ length-map (cell_keys g s.levels) (summed_cell (world c no_policy) s.measure s.levels) in
    omega (arith, few, n, size)

-- the sums of a cuboid that stands for a core fit
pub bounded : (c : Core) (s : Cuboid) → IsCuboidOf c s → AreBounded (sums_of s.cells)
bounded c s h = subst AreBounded (sym (ap sums_of (h.cells no_policy) ∙ sums_are (world c no_policy) s.measure s.levels ks)) (record {
  facts = map facts_in ks;
  long = length-map ks facts_in ∙ sym (length-map ks (cell_sum g vs s.levels));
  few = (let e = all_facts in let n = few_at_places c (filter (λ i. true) (places g)) h.rules (ArePlaces-filter (λ i. true) (length c.shape.points)) in omega (arith, e, n));
  bounded = each ks;
})
  where
    g : Public
    g = shown c no_policy

    vs : List ℤ
    vs = get_or c.cube s.measure []

    ks : List (List ℕ)
    ks = cell_keys (shown c no_policy) s.levels

    facts_in : List ℕ → ℕ
    facts_in key = sum_by (λ i. get_or c.shape.facts i 0) (covered_at (shown c no_policy) s.levels key)

    all_facts : sum (map facts_in ks) ≡ sum_by (λ i. get_or c.shape.facts i 0) (filter (λ i. true) (places g))
    all_facts = sum-map facts_in ks ∙ pos_same (sum_by facts_in ks) (sum_by (λ i. get_or c.shape.facts i 0) (filter (λ i. true) (places g))) (
        sym (over-pos facts_in ks)
        ∙ over_alike (λ k. pos (facts_in k)) (at_key (key_at g s.levels) (λ i. pos (get_or c.shape.facts i 0)) (places g)) ks (λ k. sym (gather-pos (λ i. get_or c.shape.facts i 0) (covered_at g s.levels k)))
        ∙ partition_all (key_at g s.levels) (λ i. pos (get_or c.shape.facts i 0)) (places g) ks (in_order_increasing (map (key_at g s.levels) (places g))) (λ i m. has_cell g s.levels i m)
        ∙ ap (gather (λ i. pos (get_or c.shape.facts i 0))) (sym (filter_true (places g)))
        ∙ gather-pos (λ i. get_or c.shape.facts i 0) (filter (λ i. true) (places g)))

    one : (key : List ℕ) → IsSumOf (facts_in key) (cell_sum g vs s.levels key)
    one key = total_bound c.shape.facts vs (covered_at g s.levels key) (λ i m. value_bound c s.measure i h.rules h.measure (place_below g i (IsIn-filter (λ i. same (key_at g s.levels i) key) i (places g) m).1))

    each : (ls : List (List ℕ)) → AreSumsOf (map facts_in ls) (map (cell_sum g vs s.levels) ls)
    each [] i l = absurd (omega (arith, l))
    each (k ∷ ls) zero l = one k
    each (k ∷ ls) (suc i) l = each ls i (omega (arith, l))
