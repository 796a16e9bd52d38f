-- Picked places that stand one behind another.
use Rattle.std.specs.List.{list_all, All}
use Rattle.std.proofs.Common.{◌≡◌, ℕ, zero, suc, ◌+◌, ◌<◌, ◌≤◌, ◌⊎◌, inl, inr, Bool, true, false, cond, ◌&&◌, ◌||◌, not, List, [], ◌∷◌, length, map, filter, take, drop, get_or, Option, None, Some, refl, sym, ap, ap₂, ◌∙◌, subst, arith, eqb, ltb}
use Rattle.std.proofs.lemmas.Bool.{and_parts, and_from}
use Rattle.std.proofs.lemmas.Bool.Decides.{nat_tests}
use Rattle.std.proofs.lemmas.List.{length-map, take-map, drop-map, take_all}
use Rattle.std.proofs.lemmas.List.Filters.{length-filter_both}
use Rattle.cube_model.specs.declared.request.Pick.{Pick}
use Rattle.cube_model.specs.declared.request.Request.{Request}
use Rattle.cube_model.specs.Cores.{Core, IsCore}
use Rattle.cube_model.specs.Cubes.{Dimension, up, before, count_from, IsIn, IsIncreasing, IsPoint}
use Rattle.cube_model.specs.Dims.{NamedDimension, plain, plains, no_dimension, dimension_at}
use Rattle.cube_model.specs.Requests.{in_pick, in_picks, fits}
use Rattle.cube_model.proofs.Members.{IsIn-map, IsIn-count_from, filter_has}
use Rattle.cube_model.proofs.Sources.{Each-get_or}
use Rattle.cube_core.specs.Grouping.{picked_in}
use Rattle.cube_core.specs.Index.{member_in, with_member, place_of, is_between, takes_place, taken_count, IsOrder, IsIndex}
use Rattle.cube_core.specs.declared.index.Descendant.{Descendant}
use Rattle.cube_core.proofs.Fitting.{lengths_fit}
use Rattle.cube_core.proofs.Orders.{filter_map_swap, places_back, number_in}
use Rattle.cube_core.proofs.Points.{length-point}
use Rattle.cube_core.proofs.Ranked.{all_pass, count_long, filter_alike}
use Rattle.cube_core.proofs.Totals.{ArePlaces-filter}
use Rattle.cube_core.proofs.Rising.{Rising, rising_from, rising_same}

-- ---- points by their first leaves

first_le : (x y : ℕ) (b : Bool) → (ltb x y || (eqb x y && b)) ≡ true → x ≤ y
first_le x y b h = grind (arith, nat_tests)

before_first : (xs ys : List ℕ) → before xs ys ≡ true → get_or xs 0 0 ≤ get_or ys 0 0
before_first [] [] h = omega arith
before_first [] (y ∷ ys) h = omega arith
before_first (x ∷ xs) [] h = absurd (cc)
before_first (x ∷ xs) (y ∷ ys) h = first_le x y (before xs ys) h

-- later points have no smaller first leaf
rising_points : (ps : List (List ℕ)) (i j : ℕ) → IsIncreasing ps → i < j → j < length ps → get_or (get_or ps i []) 0 0 ≤ get_or (get_or ps j []) 0 0
rising_points [] i j h a b = absurd (omega (arith, b))
rising_points (p ∷ ps) i zero h a b = absurd (omega (arith, a))
rising_points (p ∷ ps) zero (suc j) h a b = before_first p (get_or ps j []) (at ps j h.0 (omega (arith, b)))
  where
    at : (qs : List (List ℕ)) (k : ℕ) → list_all (before p) qs ≡ true → k < length qs → before p (get_or qs k []) ≡ true
    at [] k e l = absurd (omega (arith, l))
    at (q ∷ qs) zero e l = (and_parts (before p q) (list_all (before p) qs) e).0
    at (q ∷ qs) (suc k) e l = at qs k (and_parts (before p q) (list_all (before p) qs) e).1 (omega (arith, l))
rising_points (p ∷ ps) (suc i) (suc j) h a b = rising_points ps i j h.1 (omega (arith, a)) (omega (arith, b))

-- ---- an order by members that rise with the places

abbrev member_of : Descendant → ℕ
member_of e = e.member

rising_members : (f : ℕ → ℕ) (n : ℕ) → ((i j : ℕ) → i < j → j < n → f i ≤ f j) → (s m : ℕ) → s + m ≤ n → Rising member_of (map (with_member f) (count_from s m))
rising_members f n h s zero l = tt
rising_members f n h s (suc m) l = (later, rising_members f n h (suc s) m (omega (arith, l)))
  where
    later : (e : Descendant) → IsIn e (map (with_member f) (count_from (suc s) m)) → f s ≤ e.member
    later e i =
        let a = IsIn-map (with_member f) e (count_from (suc s) m) i in
        let b = IsIn-count_from a.0 (suc s) m a.1 in
        let low = b.0 in
        let high = b.1 in
        let member : f a.0 ≡ e.member = ap member_of a.2 in
        let up = h s a.0 (omega (arith, low)) (omega (arith, high, l)) in
        omega (arith, up, member)

-- such an order has the places as they stand
in_places : (f : ℕ → ℕ) (n : ℕ) (order : List Descendant) → IsOrder f n order → ((i j : ℕ) → i < j → j < n → f i ≤ f j) → order ≡ map (with_member f) (count_from 0 n)
in_places f n order h rises = rising_same member_of order (map (with_member f) (count_from 0 n)) (rising_from member_of order h.rising) (rising_members f n rises 0 n (omega arith)) h.whole

-- so many of the numbers from one on
counted : (s n k m : ℕ) → k + m ≤ n → take m (drop k (count_from s n)) ≡ count_from (s + k) m
counted s n k zero l = refl
counted s zero k (suc m) l = absurd (omega (arith, l))
counted s (suc n) zero (suc m) l = ap₂ (λ (x : ℕ) (xs : List ℕ). x ∷ xs) (omega arith) (counted (suc s) n 0 m (omega (arith, l)) ∙ ap (λ (x : ℕ). count_from x m) (omega arith))
counted s (suc n) (suc k) (suc m) l = counted (suc s) n k (suc m) (omega (arith, l)) ∙ ap (λ (x : ℕ). count_from x (suc m)) (omega arith)

stretch_of : (f : ℕ → ℕ) (n : ℕ) (order : List Descendant) (t : Descendant → Bool) (start many : ℕ) → order ≡ map (with_member f) (count_from 0 n) → start + many ≤ n → take many (drop start order) ≡ filter t order
    → count_from start many ≡ filter (λ i. t (with_member f i)) (count_from 0 n)
stretch_of f n order t start many is l kept =
    sym (counted 0 n start many l ∙ ap (λ (k : ℕ). count_from k many) (omega arith))
    ∙ ap (λ (is : List ℕ). take many (drop start is)) (sym (places_back f (count_from 0 n)) ∙ ap (map place_of) (sym is))
    ∙ ap (take many) (drop-map place_of start order)
    ∙ take-map place_of many (drop start order)
    ∙ ap (map place_of) (kept ∙ ap (filter t) is ∙ filter_map_swap t (with_member f) (count_from 0 n))
    ∙ places_back f (filter (λ i. t (with_member f i)) (count_from 0 n))

-- ---- the places that a pick of leaves of the first dimension takes

up_rises : (d : Dimension) (x y : ℕ) → x ≤ y → up d 0 x ≤ up d 0 y
unfolding up
up_rises d x y h = go (ltb 0 d.levels)
  where
    go : (b : Bool) → cond b x 0 ≤ cond b y 0
    go true = h
    go false = omega arith

leaf_members : (c : Core) (i j : ℕ) → IsCore c → i < j → j < length c.shape.points → member_in c.dims.dimensions c.shape.points 0 0 i ≤ member_in c.dims.dimensions c.shape.points 0 0 j
leaf_members c i j ok l below = up_rises (plain (get_or c.dims.dimensions 0 no_dimension)) (get_or (get_or c.shape.points i []) 0 0) (get_or (get_or c.shape.points j []) 0 0) (rising_points c.shape.points i j ok.increasing l below)

pub first_taken : (c : Core) (r : Request) (index : List (List (List Descendant))) (p : Pick) (start many : ℕ) → IsCore c → IsIndex c.dims.dimensions c.shape.points index
    → get_or r.picks 0 None ≡ Some p → p.level ≡ 0 → p.level < length (get_or index 0 []) → start + many ≤ length (get_or (get_or index 0 []) p.level [])
    → take many (drop start (get_or (get_or index 0 []) p.level [])) ≡ filter (is_between p.first p.last) (get_or (get_or index 0 []) p.level [])
    → (count_from start many ≡ filter (takes_place c r 0) (count_from 0 (length c.shape.points))) × (start + many ≤ length c.shape.points)
first_taken c r index p start many ok are is leaf level within kept =
    let n = length c.shape.points in
    let f : ℕ → ℕ = member_in c.dims.dimensions c.shape.points 0 p.level in
    let some = ok.dims.has_dimensions in
    let long = are.long in
    let order : List Descendant = get_or (get_or index 0 []) p.level [] in
    let ordered : IsOrder f n order = (are.each 0 (omega (arith, some, long))).each p.level level in
    let rises : (i j : ℕ) → i < j → j < n → f i ≤ f j = λ i j l below. subst (λ (k : ℕ). member_in c.dims.dimensions c.shape.points 0 k i ≤ member_in c.dims.dimensions c.shape.points 0 k j) (sym leaf) (leaf_members c i j ok l below) in
    let whole : order ≡ map (with_member f) (count_from 0 n) = in_places f n order ordered rises in
    let size : length order ≡ n = ap length whole ∙ length-map (count_from 0 n) (with_member f) ∙ count_long 0 n in
    let bound : start + many ≤ n = omega (arith, size, within) in (
      stretch_of f n order (is_between p.first p.last) start many whole bound kept
          ∙ ap (λ (q : Option Pick). filter (λ i. in_pick (plain (dimension_at c.dims 0)) q (get_or (get_or c.shape.points i []) 0 0)) (count_from 0 n)) (sym is),
      bound,
    )

-- ---- picks that take all places

all_kept : (t : ℕ → Bool) (xs : List ℕ) (i : ℕ) → length (filter t xs) ≡ length xs → IsIn i xs → t i ≡ true
all_kept t xs i e m = go (t i) refl
  where
    empty : (ys : List ℕ) → length ys ≡ 0 → IsIn i ys → ⊥
    empty [] z k = k
    empty (y ∷ ys) z k = omega (arith, z)

    go : (b : Bool) → t i ≡ b → t i ≡ true
    go true q = q
    go false q =
        let both = length-filter_both t (λ k. not (t k)) (λ k. refl) xs in
        absurd (empty (filter (λ k. not (t k)) xs) (omega (arith, both, e)) (filter_has (λ k. not (t k)) i xs (ap not q) m))

-- a pick that takes as many places as there are takes each
pub takes_each : (c : Core) (r : Request) (d i : ℕ) → taken_count c r d ≡ length c.shape.points → IsIn i (count_from 0 (length c.shape.points)) → takes_place c r d i ≡ true
takes_each c r d i e m = all_kept (takes_place c r d) (count_from 0 (length c.shape.points)) i (e ∙ sym (count_long 0 (length c.shape.points))) m

-- and in the place of all places stands what it takes
pub all_taken : (c : Core) (r : Request) (d : ℕ) → taken_count c r d ≡ length c.shape.points → count_from 0 (length c.shape.points) ≡ filter (takes_place c r d) (count_from 0 (length c.shape.points))
all_taken c r d e = sym (all_pass (takes_place c r d) (count_from 0 (length c.shape.points)) (λ i m. takes_each c r d i e m))

and_true : (b : Bool) → (b && true) ≡ b
and_true true = refl
and_true false = refl

-- the places that no pick but the first dimension's leaves out
all_met : (ds : List NamedDimension) (ps : List (Option Pick)) (xs : List ℕ) → length ps ≡ length ds → length xs ≡ length ds → ((k : ℕ) → k < length ds → in_pick (plain (get_or ds k no_dimension)) (get_or ps k None) (get_or xs k 0) ≡ true) → in_picks (map plain ds) ps xs ≡ true
all_met [] ps xs a b h = refl
all_met (d ∷ ds) [] xs a b h = refl
all_met (d ∷ ds) (p ∷ ps) [] a b h = refl
all_met (d ∷ ds) (p ∷ ps) (x ∷ xs) a b h = and_from (in_pick (plain d) p x) (in_picks (map plain ds) ps xs) (h 0 (omega arith)) (all_met ds ps xs (omega (arith, a)) (omega (arith, b)) (λ k l. h (suc k) (omega (arith, l))))

first_alone : (ds : List NamedDimension) (ps : List (Option Pick)) (xs : List ℕ) → 1 ≤ length ds → length ps ≡ length ds → length xs ≡ length ds → ((k : ℕ) → 1 ≤ k → k < length ds → in_pick (plain (get_or ds k no_dimension)) (get_or ps k None) (get_or xs k 0) ≡ true)
    → in_picks (map plain ds) ps xs ≡ in_pick (plain (get_or ds 0 no_dimension)) (get_or ps 0 None) (get_or xs 0 0)
first_alone [] ps xs l a b h = absurd (omega (arith, l))
first_alone (d ∷ ds) [] xs l a b h = absurd (omega (arith, a))
first_alone (d ∷ ds) (p ∷ ps) [] l a b h = absurd (omega (arith, b))
first_alone (d ∷ ds) (p ∷ ps) (x ∷ xs) l a b h = ap (λ (q : Bool). in_pick (plain d) p x && q) (all_met ds ps xs (omega (arith, a)) (omega (arith, b)) (λ k m. h (suc k) (omega arith) (omega (arith, m)))) ∙ and_true (in_pick (plain d) p x)

-- where each other pick takes all places, those are picked that the first dimension's takes
pub first_picks : (c : Core) (r : Request) → IsCore c → fits (plains c.dims) r.group r.picks ≡ true → ((d : ℕ) → 1 ≤ d → d < length c.dims.dimensions → taken_count c r d ≡ length c.shape.points)
    → filter (takes_place c r 0) (count_from 0 (length c.shape.points)) ≡ filter (picked_in c r) (count_from 0 (length c.shape.points))
first_picks c r ok fit others = filter_alike (takes_place c r 0) (picked_in c r) (count_from 0 (length c.shape.points)) (λ i m. (
    let below = (IsIn-count_from i 0 (length c.shape.points) m).1 in
    let point = Each-get_or (IsPoint (plains c.dims)) c.shape.points i [] ok.points (omega (arith, below)) in
    sym (first_alone c.dims.dimensions r.picks (get_or c.shape.points i []) ok.dims.has_dimensions (lengths_fit c.dims.dimensions r.group r.picks fit).1 (length-point c.dims.dimensions (get_or c.shape.points i []) point)
    (λ k some l. takes_each c r k i (others k some l) m))))

-- ---- picks dimension by dimension

-- the picks of so many dimensions take the place
abbrev pub picked_before : Core → Request → ℕ → ℕ → Bool
picked_before c r n i = in_picks (take n (plains c.dims)) (take n r.picks) (get_or c.shape.points i [])

filters_both : (p q : ℕ → Bool) (xs : List ℕ) → filter q (filter p xs) ≡ filter (λ i. p i && q i) xs
filters_both p q [] = refl
filters_both p q (x ∷ xs) = go (p x) (filters_both p q xs)
  where
    go : (b : Bool) → filter q (filter p xs) ≡ filter (λ i. p i && q i) xs → filter q (cond b (x ∷ filter p xs) (filter p xs)) ≡ cond (b && q x) (x ∷ filter (λ i. p i && q i) xs) (filter (λ i. p i && q i) xs)
    go true r = ap (λ (ys : List ℕ). cond (q x) (x ∷ ys) ys) r
    go false r = r

picks_next : (ds : List NamedDimension) (ps : List (Option Pick)) (xs : List ℕ) (n : ℕ) → length ps ≡ length ds → length xs ≡ length ds → n < length ds
    → in_picks (take (suc n) (map plain ds)) (take (suc n) ps) xs ≡ (in_picks (take n (map plain ds)) (take n ps) xs && in_pick (plain (get_or ds n no_dimension)) (get_or ps n None) (get_or xs n 0))
picks_next [] ps xs n a b l = absurd (omega (arith, l))
picks_next (d ∷ ds) [] xs n a b l = absurd (omega (arith, a))
picks_next (d ∷ ds) (p ∷ ps) [] n a b l = absurd (omega (arith, b))
picks_next (d ∷ ds) (p ∷ ps) (x ∷ xs) zero a b l = and_true (in_pick (plain d) p x)
picks_next (d ∷ ds) (p ∷ ps) (x ∷ xs) (suc n) a b l = go (in_pick (plain d) p x) (picks_next ds ps xs n (omega (arith, a)) (omega (arith, b)) (omega (arith, l)))
  where
    go : (t : Bool) → in_picks (take (suc n) (map plain ds)) (take (suc n) ps) xs ≡ (in_picks (take n (map plain ds)) (take n ps) xs && in_pick (plain (get_or ds n no_dimension)) (get_or ps n None) (get_or xs n 0))
        → (t && in_picks (take (suc n) (map plain ds)) (take (suc n) ps) xs) ≡ ((t && in_picks (take n (map plain ds)) (take n ps) xs) && in_pick (plain (get_or ds n no_dimension)) (get_or ps n None) (get_or xs n 0))
    go true e = e
    go false e = refl

-- a point has a leaf for each dimension
long_point : (c : Core) (i : ℕ) → IsCore c → IsIn i (count_from 0 (length c.shape.points)) → length (get_or c.shape.points i []) ≡ length c.dims.dimensions
long_point c i ok m =
    let below = (IsIn-count_from i 0 (length c.shape.points) m).1 in
    length-point c.dims.dimensions (get_or c.shape.points i []) (Each-get_or (IsPoint (plains c.dims)) c.shape.points i [] ok.points (omega (arith, below)))

-- the picks of one dimension
pub one_before : (c : Core) (r : Request) → IsCore c → fits (plains c.dims) r.group r.picks ≡ true → filter (takes_place c r 0) (count_from 0 (length c.shape.points)) ≡ filter (picked_before c r 1) (count_from 0 (length c.shape.points))
one_before c r ok fit = filter_alike (takes_place c r 0) (picked_before c r 1) (count_from 0 (length c.shape.points)) (λ i m.
    sym (picks_next c.dims.dimensions r.picks (get_or c.shape.points i []) 0 (lengths_fit c.dims.dimensions r.group r.picks fit).1 (long_point c i ok m) ok.dims.has_dimensions))

-- of one dimension more
pub one_more_before : (c : Core) (r : Request) (n : ℕ) → IsCore c → fits (plains c.dims) r.group r.picks ≡ true → n < length c.dims.dimensions
    → filter (takes_place c r n) (filter (picked_before c r n) (count_from 0 (length c.shape.points))) ≡ filter (picked_before c r (n + 1)) (count_from 0 (length c.shape.points))
one_more_before c r n ok fit l =
    filters_both (picked_before c r n) (takes_place c r n) (count_from 0 (length c.shape.points))
    ∙ filter_alike (λ i. picked_before c r n i && takes_place c r n i) (picked_before c r (n + 1)) (count_from 0 (length c.shape.points)) (λ i m.
    sym (picks_next c.dims.dimensions r.picks (get_or c.shape.points i []) n (lengths_fit c.dims.dimensions r.group r.picks fit).1 (long_point c i ok m) l)
    ∙ ap (λ (k : ℕ). picked_before c r k i) {x = suc n} {y = n + 1} (omega arith))

-- and of all
pub all_before : (c : Core) (r : Request) (n : ℕ) → fits (plains c.dims) r.group r.picks ≡ true → length c.dims.dimensions ≤ n → picked_before c r n ≡ picked_in c r
all_before c r n fit l =
    let picks = (lengths_fit c.dims.dimensions r.group r.picks fit).1 in
    let size = length-map c.dims.dimensions plain in
    ap₂ {C = ℕ → Bool} (λ ds ps i. in_picks ds ps (get_or c.shape.points i [])) (take_all n (plains c.dims) (omega (arith, size, l))) (take_all n r.picks (omega (arith, picks, l)))

-- the places that are picked so far are places
pub before_below : (c : Core) (r : Request) (n : ℕ) (places : List ℕ) → places ≡ filter (picked_before c r n) (count_from 0 (length c.shape.points)) → All (λ place. place < length c.shape.points) places
before_below c r n places e = subst (All (λ place. place < length c.shape.points)) (sym e) (ArePlaces-filter (picked_before c r n) (length c.shape.points)).below

pub counted_below : (n m : ℕ) (places : List ℕ) → places ≡ count_from 0 m → m ≡ n → All (λ place. place < n) places
counted_below n m places e f = subst (All (λ place. place < n)) (sym (e ∙ ap (λ (k : ℕ). count_from 0 k) f ∙ sym (all_pass (λ i. true) (count_from 0 n) (λ i m. refl)))) (ArePlaces-filter (λ i. true) n).below

in_count : (s n i : ℕ) → s ≤ i → i < s + n → IsIn i (count_from s n)
in_count s zero i a b = absurd (omega (arith, a, b))
in_count s (suc n) i a b = go (λ l. in_count (suc s) n i l (omega (arith, b))) (cases s i a)
  where
    cases : (x y : ℕ) → x ≤ y → (x ≡ y) ⊎ (suc x ≤ y)
    cases x y l = grind arith

    go : (suc s ≤ i → IsIn i (count_from (suc s) n)) → (s ≡ i) ⊎ (suc s ≤ i) → IsIn i (count_from s (suc n))
    go rest (inl q) = inl q
    go rest (inr q) = inr (rest q)

-- a pick that takes all places leaves none out
pub none_left_out : (c : Core) (r : Request) (d : ℕ) (places : List ℕ) → taken_count c r d ≡ length c.shape.points → All (λ place. place < length c.shape.points) places → places ≡ filter (takes_place c r d) places
none_left_out c r d places e below = sym (all_pass (takes_place c r d) places (λ i m. (
    let a = number_in i 0 places m in
    let b = subst (λ k. k < length c.shape.points) a.2 (below a.0 0 a.1) in
    takes_each c r d i e (in_count 0 (length c.shape.points) i (omega arith) (omega (arith, b))))))
