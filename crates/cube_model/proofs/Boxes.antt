-- Even boxes on a full core: in each pair the leaf numbers add to an even number at one place and to an odd number at the other.
use Rattle.std.specs.List.{list_all}
use Rattle.std.specs.Ordering.{int_eq}
use Rattle.std.specs.Prelude.{⊤}
use Rattle.std.proofs.Common.{◌≡◌, ℕ, zero, suc, ◌+◌, ◌%◌, ◌<◌, ◌≤◌, ◌⊎◌, inl, inr, Bool, true, false, cond, not, ◌&&◌, List, [], ◌∷◌, ◌++◌, length, map, filter, flat_map, find, take, get_or, Option, Some, None, is_some, ℤ, pos, negsuc, ◌+ℤ◌, refl, sym, ap, ap₂, ◌∙◌, subst, arith, eqb, eqb-true, leb, ltb, true≢false, ⊎_elim}
use Rattle.std.proofs.lemmas.Bool.{false≢true, and_parts, and_from, or_cases, or_parts, leb-true, ltb-true, eq-eqb, or_right, or_left, lt-ltb}
use Rattle.std.proofs.lemmas.Bool.Decides.{Decides-int_eq}
use Rattle.std.proofs.lemmas.List.Elements.{filter-append}
use Rattle.cube_model.specs.declared.entry.Entry.{Entry}
use Rattle.cube_model.specs.declared.entry.Entry.TheVariants.{Asked, Source, Linked}
use Rattle.cube_model.specs.declared.link.Link.{Link}
use Rattle.cube_model.specs.declared.policy.Method.TheVariants.{Parity}
use Rattle.cube_model.specs.declared.request.Pick.{Pick}
use Rattle.cube_model.specs.declared.request.Request.{Request}
use Rattle.cube_model.specs.declared.verdict.Verdict.TheVariants.{Answer, Full}
use Rattle.cube_model.specs.Cubes.{Dimension, Public, World, IsWorld, up, same, before, places, point, ancestors, key_at, count_from, IsIn, Each, IsPoint, IsIncreasing}
use Rattle.cube_model.specs.Requests.{in_pick, in_picks, is_picked, in_row, row_keys, row_at, rows, is_grouped}
use Rattle.cube_model.specs.Protection.{guarded}
use Rattle.cube_model.specs.Links.{linked, links, suiting, is_free, follows}
use Rattle.cube_model.specs.Entries.{requests, on, links_in}
use Rattle.cube_model.specs.Verdicts.{links_of, most_held, first_stop, stopped_at, unless_stopped, verdict}
use Rattle.cube_model.specs.EvenBoxes.{IsFull, AreConsecutive, IsBoxEntry, IsEvenBox, EvenBoxesLeaveFree, EvenBoxesAreAnswered}
use Rattle.cube_model.proofs.Histories.{verdict_on}
use Rattle.cube_model.proofs.Members.{tested, IsIn-filter, IsIn-map, map_has, IsIn-flat_map, flat_map_has, IsIn-append, IsIn-count_from, count_from_has, same_refl, IsIn-in_order}
use Rattle.cube_model.proofs.Parities.{Suits, IsOf, IsSmall, in_suiting, at_place, links_places}
use Rattle.cube_model.proofs.Sources.{place_below, Each-get_or}
use Rattle.cube_model.proofs.Walks.{any_has}

-- ---- sequences of parities

xor : Bool → Bool → Bool
xor true b = not b
xor false b = b

odd : ℕ → Bool
odd zero = false
odd (suc n) = not (odd n)

-- the first and the second differ, the third and the fourth, and so on
Paired : List Bool → Type 0
Paired [] = ⊤
Paired (a ∷ []) = ⊥
Paired (a ∷ b ∷ rest) = (b ≡ not a) × Paired rest

-- each differs from the one before; the first is v
Alternate : Bool → List Bool → Type 0
Alternate v [] = ⊤
Alternate v (a ∷ rest) = (a ≡ v) × Alternate (not v) rest

not_not : (b : Bool) → not (not b) ≡ b
not_not true = refl
not_not false = refl

paired_append : (xs ys : List Bool) → Paired xs → Paired ys → Paired (xs ++ ys)
unfolding Paired
paired_append [] ys p q = q
paired_append (a ∷ []) ys p q = absurd p
paired_append (a ∷ b ∷ xs) ys p q = (p.0, paired_append xs ys p.1 q)

paired_xor : (c : Bool) (xs : List Bool) → Paired xs → Paired (map (xor c) xs)
unfolding Paired xor
paired_xor c [] p = tt
paired_xor c (a ∷ []) p = absurd p
paired_xor c (a ∷ b ∷ xs) p = (ap (xor c) p.0 ∙ flip c a, paired_xor c xs p.1)
  where
    flip : (c a : Bool) → xor c (not a) ≡ not (xor c a)
    flip true a = refl
    flip false a = refl

alternate_xor : (c v : Bool) (xs : List Bool) → Alternate v xs → Alternate (xor c v) (map (xor c) xs)
unfolding Alternate xor
alternate_xor c v [] p = tt
alternate_xor c v (a ∷ xs) p = (ap (xor c) p.0, subst (λ z. Alternate z (map (xor c) xs)) (flip c v) (alternate_xor c (not v) xs p.1))
  where
    flip : (c a : Bool) → xor c (not a) ≡ not (xor c a)
    flip true a = refl
    flip false a = refl

-- behind an odd number of entries comes the other parity
alternate_append : (v : Bool) (xs ys : List Bool) → Alternate v xs → Alternate (xor (odd (length xs)) v) ys → Alternate v (xs ++ ys)
unfolding Alternate xor odd
alternate_append v [] ys p q = q
alternate_append v (a ∷ xs) ys p q = (p.0, alternate_append (not v) xs ys p.1 (subst (λ z. Alternate z ys) (turn (odd (length xs)) v) q))
  where
    turn : (c v : Bool) → xor (not c) v ≡ xor c (not v)
    turn true true = refl
    turn true false = refl
    turn false v = refl

alternate_paired : (v : Bool) (xs : List Bool) → Alternate v xs → odd (length xs) ≡ false → Paired xs
unfolding Alternate Paired odd
alternate_paired v [] p o = tt
alternate_paired v (a ∷ []) p o = absurd (true≢false o)
alternate_paired v (a ∷ b ∷ xs) p o = (p.1.0 ∙ ap not (sym p.0), alternate_paired v xs (subst (λ z. Alternate z xs) (not_not v) p.1.1) (sym (not_not (odd (length xs))) ∙ o))

-- paired, or alternating and odd in number
Regular : List Bool → Type 0
Regular xs = Paired xs ⊎ ((v : Bool) × Alternate v xs × (odd (length xs) ≡ true))

-- one block per number
blocks : ℕ → ℕ → List Bool → List Bool
blocks a zero xs = []
blocks a (suc k) xs = map (xor (odd a)) xs ++ blocks (suc a) k xs

blocks_paired : (a k : ℕ) (xs : List Bool) → Paired xs → Paired (blocks a k xs)
unfolding blocks Paired
blocks_paired a zero xs p = tt
blocks_paired a (suc k) xs p = paired_append (map (xor (odd a)) xs) (blocks (suc a) k xs) (paired_xor (odd a) xs p) (blocks_paired (suc a) k xs p)

length-map : {X Y : Type 0} (f : X → Y) (xs : List X) → length (map f xs) ≡ length xs
length-map f [] = refl
length-map f (x ∷ xs) = ap suc (length-map f xs)

blocks_alternate : (a k : ℕ) (v : Bool) (xs : List Bool) → Alternate v xs → odd (length xs) ≡ true → Alternate (xor (odd a) v) (blocks a k xs)
unfolding blocks Alternate odd xor
blocks_alternate a zero v xs p o = tt
blocks_alternate a (suc k) v xs p o =
    alternate_append (xor (odd a) v) (map (xor (odd a)) xs) (blocks (suc a) k xs) (alternate_xor (odd a) v xs p)
    (subst (λ z. Alternate z (blocks (suc a) k xs)) (turn (odd a) v ∙ ap (λ z. xor z (xor (odd a) v)) (sym (ap odd (length-map (xor (odd a)) xs) ∙ o))) (blocks_alternate (suc a) k v xs p o))
  where
    turn : (c v : Bool) → xor (not c) v ≡ not (xor c v)
    turn true true = refl
    turn true false = refl
    turn false v = refl

blocks_regular : (a k : ℕ) (xs : List Bool) → Regular xs → Regular (blocks a k xs)
unfolding Regular
blocks_regular a k xs (inl p) = inl (blocks_paired a k xs p)
blocks_regular a k xs (inr p) = tested (odd (length (blocks a k xs)))
    (λ o. inr (xor (odd a) p.0, blocks_alternate a k p.0 xs p.1 p.2, o))
    (λ o. inl (alternate_paired (xor (odd a) p.0) (blocks a k xs) (blocks_alternate a k p.0 xs p.1 p.2) o))

-- ---- boxes of leaf vectors

-- whether the leaf numbers add to an odd number
odd_point : List ℕ → Bool
odd_point [] = false
odd_point (x ∷ xs) = xor (odd x) (odd_point xs)

-- the vectors with such first entries
unfoldable pub spread : List ℕ → List (List ℕ) → List (List ℕ)
spread xs ys = flat_map (λ x. map (λ y. x ∷ y) ys) xs

parities_spread : (a k : ℕ) (ys : List (List ℕ)) → map odd_point (spread (count_from a k) ys) ≡ blocks a k (map odd_point ys)
unfolding spread blocks odd_point
parities_spread a zero ys = refl
parities_spread a (suc k) ys = map-append odd_point (map (λ y. a ∷ y) ys) (spread (count_from (suc a) k) ys) ∙ ap₂ (λ u v. u ++ v) (one ys) (parities_spread (suc a) k ys)
  where
    map-append : {X Y : Type 0} (f : X → Y) (xs ys : List X) → map f (xs ++ ys) ≡ map f xs ++ map f ys
    map-append f [] ys = refl
    map-append f (x ∷ xs) ys = ap (λ z. f x ∷ z) (map-append f xs ys)

    one : (zs : List (List ℕ)) → map odd_point (map (λ y. a ∷ y) zs) ≡ map (xor (odd a)) (map odd_point zs)
    one [] = refl
    one (z ∷ zs) = ap (λ u. xor (odd a) (odd_point z) ∷ u) (one zs)

-- all leaf vectors, in order
unfoldable pub all_points : List Dimension → List (List ℕ)
all_points [] = [] ∷ []
all_points (d ∷ ds) = spread (count_from 0 (length d.paths)) (all_points ds)

-- what a product keeps
filter_spread : (p : ℕ → Bool) (q : List ℕ → Bool) (test : List ℕ → Bool) (xs : List ℕ) (ys : List (List ℕ)) → ((x : ℕ) (y : List ℕ) → test (x ∷ y) ≡ (p x && q y)) → filter test (spread xs ys) ≡ spread (filter p xs) (filter q ys)
unfolding spread
filter_spread p q test [] ys h = refl
filter_spread p q test (x ∷ xs) ys h =
    filter-append test (map (λ y. x ∷ y) ys) (spread xs ys)
    ∙ ap (λ z. filter test (map (λ y. x ∷ y) ys) ++ z) (filter_spread p q test xs ys h)
    ∙ go (p x) refl
  where
    kept : p x ≡ true → (zs : List (List ℕ)) → filter test (map (λ y. x ∷ y) zs) ≡ map (λ y. x ∷ y) (filter q zs)
    kept e [] = refl
    kept e (z ∷ zs) = ap (λ b. cond b ((x ∷ z) ∷ filter test (map (λ y. x ∷ y) zs)) (filter test (map (λ y. x ∷ y) zs))) (h x z ∙ ap (λ b. b && q z) e) ∙ more (kept e zs) (q z)
      where
        more : filter test (map (λ y. x ∷ y) zs) ≡ map (λ y. x ∷ y) (filter q zs) → (b : Bool) → cond b ((x ∷ z) ∷ filter test (map (λ y. x ∷ y) zs)) (filter test (map (λ y. x ∷ y) zs)) ≡ map (λ y. x ∷ y) (cond b (z ∷ filter q zs) (filter q zs))
        more r true = ap (λ u. (x ∷ z) ∷ u) r
        more r false = r

    dropped : p x ≡ false → (zs : List (List ℕ)) → filter test (map (λ y. x ∷ y) zs) ≡ []
    dropped e [] = refl
    dropped e (z ∷ zs) = ap (λ b. cond b ((x ∷ z) ∷ filter test (map (λ y. x ∷ y) zs)) (filter test (map (λ y. x ∷ y) zs))) (h x z ∙ ap (λ b. b && q z) e) ∙ dropped e zs

    go : (b : Bool) → p x ≡ b → filter test (map (λ y. x ∷ y) ys) ++ spread (filter p xs) (filter q ys) ≡ spread (cond b (x ∷ filter p xs) (filter p xs)) (filter q ys)
    go true e = ap (λ z. z ++ spread (filter p xs) (filter q ys)) (kept e ys)
    go false e = ap (λ z. z ++ spread (filter p xs) (filter q ys)) (dropped e ys)

-- the picked leaf vectors are regular
box_regular : (ds : List Dimension) (ps : List (Option Pick)) → AreConsecutive ds ps → Regular (map odd_point (filter (in_picks ds ps) (all_points ds)))
unfolding Regular all_points odd_point Alternate odd
box_regular [] ps c = inr (false, (refl, tt), refl)
box_regular (d ∷ ds) [] c = absurd c
box_regular (d ∷ ds) (p ∷ ps) c =
    subst Regular
    (sym (ap (map odd_point) (filter_spread (in_pick d p) (in_picks ds ps) (in_picks (d ∷ ds) (p ∷ ps)) (count_from 0 (length d.paths)) (all_points ds) (λ x y. refl) ∙ ap (λ xs. spread xs (filter (in_picks ds ps) (all_points ds))) c.0.2)
    ∙ parities_spread c.0.0 c.0.1 (filter (in_picks ds ps) (all_points ds))))
    (blocks_regular c.0.0 c.0.1 (map odd_point (filter (in_picks ds ps) (all_points ds))) (box_regular ds ps c.1))

-- ---- a full core has all leaf vectors, in order

pub all_points_has : (ds : List Dimension) (x : List ℕ) → IsPoint ds x → IsIn x (all_points ds)
unfolding all_points spread
all_points_has [] [] h = inl refl
all_points_has [] (x ∷ xs) h = absurd h
all_points_has (d ∷ ds) [] h = absurd h
all_points_has (d ∷ ds) (x ∷ xs) h = flat_map_has (λ a. map (λ y. a ∷ y) (all_points ds)) x (x ∷ xs) (count_from 0 (length d.paths))
    (let l : x < length d.paths = h.0 in count_from_has x 0 (length d.paths) (omega arith) (omega arith)) (map_has (λ y. x ∷ y) xs (all_points ds) (all_points_has ds xs h.1))

pub all_points_are : (ds : List Dimension) (x : List ℕ) → IsIn x (all_points ds) → IsPoint ds x
unfolding all_points spread
all_points_are [] x (inl e) = subst (IsPoint []) e tt
all_points_are [] x (inr k) = absurd k
all_points_are (d ∷ ds) x h =
    let a = IsIn-flat_map (λ a. map (λ y. a ∷ y) (all_points ds)) x (count_from 0 (length d.paths)) h in
    let b = IsIn-map (λ y. a.0 ∷ y) x (all_points ds) a.2 in
    let c : a.0 < 0 + length d.paths = (IsIn-count_from a.0 0 (length d.paths) a.1).1 in
    subst (IsPoint (d ∷ ds)) b.2 (omega arith, all_points_are ds b.0 b.1)

all_from : {X : Type 0} (p : X → Bool) (xs : List X) → ((x : X) → IsIn x xs → p x ≡ true) → list_all p xs ≡ true
all_from p [] h = refl
all_from p (x ∷ xs) h = and_from (p x) (list_all p xs) (h x (inl refl)) (all_from p xs (λ y k. h y (inr k)))

all_at : {X : Type 0} (p : X → Bool) (x : X) (xs : List X) → list_all p xs ≡ true → IsIn x xs → p x ≡ true
all_at p x [] e h = absurd h
all_at p x (y ∷ ys) e (inl q) = ap p (sym q) ∙ (and_parts (p y) (list_all p ys) e).0
all_at p x (y ∷ ys) e (inr k) = all_at p x ys (and_parts (p y) (list_all p ys) e).1 k

increasing_append : (xs ys : List (List ℕ)) → IsIncreasing xs → IsIncreasing ys → ((x y : List ℕ) → IsIn x xs → IsIn y ys → before x y ≡ true) → IsIncreasing (xs ++ ys)
increasing_append [] ys a b h = b
increasing_append (x ∷ xs) ys a b h = (
  all_from (before x) (xs ++ ys) (λ z k. ⊎_elim (λ l. all_at (before x) z xs a.0 l) (λ r. h x z (inl refl) r) (IsIn-append z xs ys k)),
  increasing_append xs ys a.1 b (λ u v k l. h u v (inr k) l),
)

increasing_map : (a : ℕ) (ys : List (List ℕ)) → IsIncreasing ys → IsIncreasing (map (λ y. a ∷ y) ys)
increasing_map a [] h = tt
increasing_map a (y ∷ ys) h = (
  all_from (before (a ∷ y)) (map (λ y. a ∷ y) ys) (λ z k. let r = IsIn-map (λ y. a ∷ y) z ys k in ap (before (a ∷ y)) (sym r.2) ∙ or_right (ltb a a) (eqb a a && before y r.0) (and_from (eqb a a) (before y r.0) (eq-eqb a a refl) (all_at (before y) r.0 ys h.0 r.1))),
  increasing_map a ys h.1,
)

increasing_spread : (a k : ℕ) (ys : List (List ℕ)) → IsIncreasing ys → IsIncreasing (spread (count_from a k) ys)
unfolding spread
increasing_spread a zero ys h = tt
increasing_spread a (suc k) ys h = increasing_append (map (λ y. a ∷ y) ys) (spread (count_from (suc a) k) ys) (increasing_map a ys h) (increasing_spread (suc a) k ys h) (λ x y p q.
    let u = IsIn-map (λ y. a ∷ y) x ys p in
    let v = IsIn-flat_map (λ b. map (λ y. b ∷ y) ys) y (count_from (suc a) k) q in
    let z = IsIn-map (λ y. v.0 ∷ y) y ys v.2 in
    let l : suc a ≤ v.0 = (IsIn-count_from v.0 (suc a) k v.1).0 in
    ap₂ before (sym u.2) (sym z.2) ∙ or_left (ltb a v.0) (eqb a v.0 && before u.0 z.0) (lt-ltb a v.0 (omega arith)))

pub all_points_increasing : (ds : List Dimension) → IsIncreasing (all_points ds)
unfolding all_points
all_points_increasing [] = (refl, tt)
all_points_increasing (d ∷ ds) = increasing_spread 0 (length d.paths) (all_points ds) (all_points_increasing ds)

pub before_not_itself : (x : List ℕ) → before x x ≡ true → ⊥
before_not_itself [] e = false≢true e
before_not_itself (x ∷ xs) e = ⊎_elim
    (λ a. let l : x < x = ltb-true x x a in omega arith)
    (λ a. before_not_itself xs (and_parts (eqb x x) (before xs xs) a).1)
    (or_cases (ltb x x) (eqb x x && before xs xs) e)

pub before_one_way : (x y : List ℕ) → before x y ≡ true → before y x ≡ true → ⊥
before_one_way [] [] p q = false≢true p
before_one_way [] (b ∷ y) p q = false≢true q
before_one_way (a ∷ x) [] p q = false≢true p
before_one_way (a ∷ x) (b ∷ y) p q = ⊎_elim
    (λ ab. let l : a < b = ltb-true a b ab in ⊎_elim
    (λ ba. let k : b < a = ltb-true b a ba in omega arith)
    (λ ba. let k : b ≡ a = eqb-true b a (and_parts (eqb b a) (before y x) ba).0 in omega arith)
    (or_cases (ltb b a) (eqb b a && before y x) q))
    (λ ab. let l : a ≡ b = eqb-true a b (and_parts (eqb a b) (before x y) ab).0 in ⊎_elim
    (λ ba. let k : b < a = ltb-true b a ba in omega arith)
    (λ ba. before_one_way x y (and_parts (eqb a b) (before x y) ab).1 (and_parts (eqb b a) (before y x) ba).1)
    (or_cases (ltb b a) (eqb b a && before y x) q))
    (or_cases (ltb a b) (eqb a b && before x y) p)

-- increasing lists with the same members are one
pub same_increasing : (xs ys : List (List ℕ)) → IsIncreasing xs → IsIncreasing ys → ((z : List ℕ) → IsIn z xs → IsIn z ys) → ((z : List ℕ) → IsIn z ys → IsIn z xs) → xs ≡ ys
same_increasing [] [] a b f g = refl
same_increasing [] (y ∷ ys) a b f g = absurd (g y (inl refl))
same_increasing (x ∷ xs) [] a b f g = absurd (f x (inl refl))
same_increasing (x ∷ xs) (y ∷ ys) a b f g =
    ap₂ (λ u us. u ∷ us) heads (same_increasing xs ys a.1 b.1 (λ z k. later z (f z (inr k)) (λ e. before_not_itself x (all_at (before x) x xs a.0 (subst (λ u. IsIn u xs) (sym (heads ∙ e)) k)))) (λ z k. sooner z (g z (inr k)) (λ e. before_not_itself y (all_at (before y) y ys b.0 (subst (λ u. IsIn u ys) (sym (sym heads ∙ e)) k)))))
  where
    later : (z : List ℕ) → IsIn z (y ∷ ys) → (y ≡ z → ⊥) → IsIn z ys
    later z (inl e) d = absurd (d e)
    later z (inr k) d = k

    sooner : (z : List ℕ) → IsIn z (x ∷ xs) → (x ≡ z → ⊥) → IsIn z xs
    sooner z (inl e) d = absurd (d e)
    sooner z (inr k) d = k

    head_cases : IsIn x (y ∷ ys) → IsIn y (x ∷ xs) → x ≡ y
    head_cases (inl e) k = sym e
    head_cases (inr h) (inl e) = e
    head_cases (inr h) (inr k) = absurd (before_one_way x y (all_at (before x) y xs a.0 k) (all_at (before y) x ys b.0 h))

    heads : x ≡ y
    heads = head_cases (f x (inl refl)) (g y (inl refl))

pub each_at : {X : Type 0} (P : X → Type 0) (x : X) (xs : List X) → Each P xs → IsIn x xs → P x
each_at P x [] e h = absurd h
each_at P x (y ∷ ys) e (inl q) = subst P q e.0
each_at P x (y ∷ ys) e (inr k) = each_at P x ys e.1 k

pub full_if : (g : Public) → g.shape.points ≡ all_points g.dimensions → IsFull g
full_if g e x h = subst (IsIn x) (sym e) (all_points_has g.dimensions x h)

pub full_points : (w : World) → IsWorld w → IsFull w.shown → w.shown.shape.points ≡ all_points w.shown.dimensions
full_points w ok full = same_increasing w.shown.shape.points (all_points w.shown.dimensions) ok.increasing (all_points_increasing w.shown.dimensions)
    (λ z k. all_points_has w.shown.dimensions z (each_at (IsPoint w.shown.dimensions) z w.shown.shape.points ok.points k))
    (λ z k. full z (all_points_are w.shown.dimensions z k))

-- ---- the rows of an even box

map_get : (xs : List (List ℕ)) → map (λ i. get_or xs i []) (count_from 0 (length xs)) ≡ xs
map_get [] = refl
map_get (x ∷ xs) = ap (λ u. x ∷ u) (shift 0 (length xs) ∙ map_get xs)
  where
    shift : (s n : ℕ) → map (λ i. get_or (x ∷ xs) i []) (count_from (suc s) n) ≡ map (λ i. get_or xs i []) (count_from s n)
    shift s zero = refl
    shift s (suc n) = ap (λ u. get_or xs s [] ∷ u) (shift (suc s) n)

filter_map_test : {X Y : Type 0} (f : X → Y) (p : Y → Bool) (xs : List X) → filter p (map f xs) ≡ map f (filter (λ x. p (f x)) xs)
filter_map_test f p [] = refl
filter_map_test f p (x ∷ xs) = go (p (f x)) (filter_map_test f p xs)
  where
    go : (b : Bool) → filter p (map f xs) ≡ map f (filter (λ y. p (f y)) xs) → cond b (f x ∷ filter p (map f xs)) (filter p (map f xs)) ≡ map f (cond b (x ∷ filter (λ y. p (f y)) xs) (filter (λ y. p (f y)) xs))
    go true r = ap (λ u. f x ∷ u) r
    go false r = r

picked_places : Public → Request → List ℕ
picked_places g r = filter (is_picked g r) (places g)

picked_points : (g : Public) (r : Request) → map (point g) (picked_places g r) ≡ filter (in_picks g.dimensions r.picks) g.shape.points
unfolding picked_places is_picked
picked_points g r = sym (filter_map_test (point g) (in_picks g.dimensions r.picks) (places g)) ∙ ap (filter (in_picks g.dimensions r.picks)) (map_get g.shape.points)

map_map : {X Y Z : Type 0} (f : Y → Z) (g : X → Y) (xs : List X) → map f (map g xs) ≡ map (λ x. f (g x)) xs
map_map f g [] = refl
map_map f g (x ∷ xs) = ap (λ b. f (g x) ∷ b) (map_map f g xs)

odd_mod : (n : ℕ) → n % 2 ≡ 0 → odd n ≡ false
unfolding odd
odd_mod zero e = refl
odd_mod (suc zero) e = absurd (cc)
odd_mod (suc (suc n)) e = not_not (odd n) ∙ odd_mod n (omega arith)

-- whether the leaf numbers at a place add to an odd number
odd_place : Public → ℕ → Bool
odd_place g i = odd_point (point g i)

box_paired : (w : World) (r : Request) → IsWorld w → IsFull w.shown → IsEvenBox w.shown r → Paired (map (odd_place w.shown) (picked_places w.shown r))
unfolding odd_place Regular picked_places
box_paired w r ok full box = pick (box_regular w.shown.dimensions r.picks box.consecutive)
  where
    here : map odd_point (filter (in_picks w.shown.dimensions r.picks) (all_points w.shown.dimensions)) ≡ map (λ i. odd_point (point w.shown i)) (filter (is_picked w.shown r) (places w.shown))
    here = ap (λ ps. map odd_point (filter (in_picks w.shown.dimensions r.picks) ps)) (sym (full_points w ok full)) ∙ ap (map odd_point) (sym (picked_points w.shown r)) ∙ map_map odd_point (point w.shown) (filter (is_picked w.shown r) (places w.shown))

    even : odd (length (map odd_point (filter (in_picks w.shown.dimensions r.picks) (all_points w.shown.dimensions)))) ≡ false
    even = ap (λ xs. odd (length xs)) here ∙ ap odd (length-map (λ i. odd_point (point w.shown i)) (filter (is_picked w.shown r) (places w.shown))) ∙ odd_mod (length (filter (is_picked w.shown r) (places w.shown))) box.even

    pick : Regular (map odd_point (filter (in_picks w.shown.dimensions r.picks) (all_points w.shown.dimensions))) → Paired (map (λ i. odd_point (point w.shown i)) (filter (is_picked w.shown r) (places w.shown)))
    pick (inl p) = subst Paired here p
    pick (inr p) = absurd (true≢false (sym p.2 ∙ even))

-- all places have one key at levels that are all `all`
one_key : (ds : List Dimension) (ls x y : List ℕ) → is_grouped ds ls ≡ false → IsPoint ds x → IsPoint ds y → ancestors ds ls x ≡ ancestors ds ls y
unfolding up
one_key [] ls x y e a b = refl
one_key (d ∷ ds) [] x y e a b = refl
one_key (d ∷ ds) (l ∷ ls) [] y e a b = absurd a
one_key (d ∷ ds) (l ∷ ls) (x ∷ xs) [] e a b = absurd b
one_key (d ∷ ds) (l ∷ ls) (x ∷ xs) (y ∷ ys) e a b =
    let p = or_parts (ltb l d.levels) (is_grouped ds ls) e in
    let q : ltb l d.levels ≡ false = p.0 in
    ap₂ (λ u us. u ∷ us) (rw q refl) (one_key ds ls xs ys p.1 a.1 b.1)

filter_alike : {X : Type 0} (p q : X → Bool) (xs : List X) → ((x : X) → IsIn x xs → p x ≡ q x) → filter p xs ≡ filter q xs
filter_alike p q [] h = refl
filter_alike p q (x ∷ xs) h = ap₂ (λ b ys. cond b (x ∷ ys) ys) (h x (inl refl)) (filter_alike p q xs (λ y k. h y (inr k)))

place_at : (w : World) (i : ℕ) → IsWorld w → i < length w.shown.shape.points → IsPoint w.shown.dimensions (point w.shown i)
place_at w i ok l = Each-get_or (IsPoint w.shown.dimensions) w.shown.shape.points i [] ok.points l

true_and : (b c : Bool) → c ≡ true → (b && c) ≡ b
true_and true c e = e
true_and false c e = refl

-- an even box has one row, of all its places
box_row : (w : World) (r : Request) (key : List ℕ) → IsWorld w → IsEvenBox w.shown r → IsIn key (row_keys w.shown r) → filter (in_row w.shown r key) (places w.shown) ≡ picked_places w.shown r
unfolding picked_places key_at
box_row w r key ok box k =
    let a = IsIn-map (key_at w.shown r.group) key (filter (is_picked w.shown r) (places w.shown)) (IsIn-in_order key (map (key_at w.shown r.group) (filter (is_picked w.shown r) (places w.shown))) k) in
    let b = IsIn-filter (is_picked w.shown r) a.0 (places w.shown) a.1 in
    filter_alike (in_row w.shown r key) (is_picked w.shown r) (places w.shown) (λ i m.
    true_and (is_picked w.shown r i) (same (key_at w.shown r.group i) key)
    (ap (λ z. same z key) (one_key w.shown.dimensions r.group (point w.shown i) (point w.shown a.0) box.ungrouped (place_at w i ok (place_below w.shown i m)) (place_at w a.0 ok (place_below w.shown a.0 b.1)) ∙ a.2) ∙ same_refl key))

-- +1 and -1 like the squares of a board
chess : Bool → Bool → ℤ
chess c b = cond (xor c b) (negsuc 0) (pos 1)

chess_pair : (c a b : Bool) → b ≡ not a → chess c a +ℤ chess c b ≡ pos 0
unfolding chess xor
chess_pair c a b e = subst (λ z. chess c a +ℤ chess c z ≡ pos 0) (sym e) (go c a)
  where
    go : (c a : Bool) → chess c a +ℤ chess c (not a) ≡ pos 0
    go true true = refl
    go true false = refl
    go false true = refl
    go false false = refl

linked_chess : (c : Bool) (s : ℕ → Bool) (is : List ℕ) → Paired (map s is) → (l : Link) → IsIn l (linked is) → Suits (λ i. chess c (s i)) l
unfolding Paired
linked_chess c s [] p l k = absurd k
linked_chess c s (i ∷ []) p l k = absurd p
linked_chess c s (i ∷ j ∷ is) p l (inl e) = subst (Suits (λ i. chess c (s i))) e (chess_pair c (s i) (s j) p.0)
linked_chess c s (i ∷ j ∷ is) p l (inr k) = linked_chess c s is p.1 l k

box_suits : (w : World) (c : Bool) (r : Request) → IsWorld w → IsFull w.shown → IsEvenBox w.shown r → (l : Link) → IsIn l (links w.shown r) → Suits (λ i. chess c (odd_place w.shown i)) l
unfolding links
box_suits w c r ok full box l h =
    let a = IsIn-flat_map (λ row. linked row.places) l (rows w.shown r) h in
    let b = IsIn-map (row_at w.shown r) a.0 (row_keys w.shown r) a.1 in
    linked_chess c (odd_place w.shown) (picked_places w.shown r) (box_paired w r ok full box) l
    (subst (λ is. IsIn l (linked is)) (box_row w r b.0 ok box b.1) (subst (λ row. IsIn l (linked row.places)) (sym b.2) a.2))

-- a link of an entry that is an even box is one of an even box
box_link : (g : Public) (e : Entry) (l : Link) → IsBoxEntry g e → IsIn l (links_in g e) → (r : Request) × (IsEvenBox g r) × IsIn l (links g r)
box_link g (Asked r) l b k = (r, b, k)
box_link g (Source m c) l b k = absurd b
box_link g (Linked m x) l b k = absurd b

history_link : (g : Public) (h : List Entry) (m : ℕ) (l : Link) → Each (IsBoxEntry g) (on m h) → IsIn l (links_of g h m) → (r : Request) × (IsEvenBox g r) × IsIn l (links g r)
unfolding links_of
history_link g h m l boxes k = let a = IsIn-flat_map (links_in g) l (on m h) k in box_link g a.0 l (each_at (IsBoxEntry g) a.0 (on m h) boxes a.1) a.2

history_suits : (w : World) (c : Bool) (h : List Entry) (m : ℕ) → IsWorld w → IsFull w.shown → Each (IsBoxEntry w.shown) (on m h) → (l : Link) → IsIn l (links_of w.shown h m) → Suits (λ i. chess c (odd_place w.shown i)) l
history_suits w c h m ok full boxes l k = let a = history_link w.shown h m l boxes k in box_suits w c a.0 ok full a.1 l a.2

small_chess : (c b : Bool) → IsSmall (chess c b)
unfolding chess
small_chess c b = go (xor c b)
  where
    go : (z : Bool) → IsSmall (cond z (negsuc 0) (pos 1))
    go true = inl refl
    go false = inr (inr refl)

chess_same : (b : Bool) → chess b b ≡ pos 1
unfolding chess xor
chess_same true = refl
chess_same false = refl

-- a place is free from links that the board suits
board_free : (w : World) (ls : List Link) (i : ℕ) → i < length w.shown.shape.points → ((l : Link) → IsIn l ls → IsOf (λ k. k < length w.shown.shape.points) l) → ((c : Bool) (l : Link) → IsIn l ls → Suits (λ k. chess c (odd_place w.shown k)) l) → is_free (length w.shown.shape.points) ls i ≡ true
board_free w ls i below places suits =
    any_has (λ xs. int_eq (get_or xs i (pos 0)) (pos 1)) (map (λ k. chess (odd_place w.shown i) (odd_place w.shown k)) (count_from 0 (length w.shown.shape.points))) (suiting (length w.shown.shape.points) ls)
    (in_suiting (λ k. chess (odd_place w.shown i) (odd_place w.shown k)) (length w.shown.shape.points) ls (λ k. small_chess (odd_place w.shown i) (odd_place w.shown k)) places (suits (odd_place w.shown i)))
    ((Decides-int_eq _ (pos 1)).1 (at_place (λ k. chess (odd_place w.shown i) (odd_place w.shown k)) (length w.shown.shape.points) i below ∙ chess_same (odd_place w.shown i)))

-- so all places are free from any of the links of even boxes
some_free : (w : World) (h : List Entry) (r : Request) (m i : ℕ) (ls : List Link) → IsWorld w → IsFull w.shown → Each (IsBoxEntry w.shown) (on m h) → IsEvenBox w.shown r → i < length w.shown.shape.points → ((l : Link) → IsIn l ls → IsIn l (links w.shown r)) → is_free (length w.shown.shape.points) (links_of w.shown h m ++ ls) i ≡ true
some_free w h r m i ls ok full boxes box below sub = board_free w (links_of w.shown h m ++ ls) i below
    (λ l k. ⊎_elim (λ a. let b = history_link w.shown h m l boxes a in links_places w.shown b.0 l b.2) (λ a. links_places w.shown r l (sub l a)) (IsIn-append l (links_of w.shown h m) ls k))
    (λ c l k. ⊎_elim (λ a. history_suits w c h m ok full boxes l a) (λ a. box_suits w c r ok full box l (sub l a)) (IsIn-append l (links_of w.shown h m) ls k))

pub even_boxes_leave_free : EvenBoxesLeaveFree
even_boxes_leave_free w h r m i ok full boxes box below = some_free w h r m i (links w.shown r) ok full boxes box below (λ l k. k)

-- a search of what all fail finds nothing
finds_none : {X : Type 0} (p : X → Bool) (xs : List X) → ((x : X) → IsIn x xs → p x ≡ false) → find p xs ≡ None
finds_none p [] h = refl
finds_none p (x ∷ xs) h = ap (λ b. cond b (Some x) (find p xs)) (h x (inl refl)) ∙ finds_none p xs (λ y k. h y (inr k))

pub IsIn-take : {X : Type 0} (k : ℕ) (x : X) (xs : List X) → IsIn x (take k xs) → IsIn x xs
IsIn-take zero x xs h = absurd h
IsIn-take (suc k) x [] h = absurd h
IsIn-take (suc k) x (y ∷ ys) (inl e) = inl e
IsIn-take (suc k) x (y ∷ ys) (inr z) = inr (IsIn-take k x ys z)

never_stops : (w : World) (h : List Entry) (r : Request) (m : ℕ) → IsWorld w → IsFull w.shown → Each (IsBoxEntry w.shown) (on m h) → IsEvenBox w.shown r → first_stop (length w.shown.shape.points) (guarded w.shown m) (links_of w.shown h m) (links w.shown r) ≡ None
never_stops w h r m ok full boxes box = finds_none _ (count_from 1 (length (links w.shown r))) (λ k z.
    ap is_some (finds_none _ (guarded w.shown m) (λ i g. ap not (some_free w h r m i (take k (links w.shown r)) ok full boxes box (place_below w.shown i (IsIn-filter _ i (places w.shown) g).1) (λ l q. IsIn-take k l (links w.shown r) q)))))

pub even_boxes_are_answered : EvenBoxesAreAnswered
even_boxes_are_answered w h r m ok way full boxes box q = go
    (list_all (follows (length w.shown.shape.points) (links_of w.shown h m)) (links w.shown r)) (leb most_held (length (requests h))) refl
    (first_stop (length w.shown.shape.points) (guarded w.shown m) (links_of w.shown h m) (links w.shown r)) (never_stops w h r m ok full boxes box)
    (verdict_on w.shown h r m Parity way q)
  where
    go : (a b : Bool) → leb most_held (length (requests h)) ≡ b → (o : Option ℕ) → o ≡ None → verdict w.shown h r ≡ cond a (Answer false) (cond b (Full (length (requests h))) (unless_stopped (stopped_at (length w.shown.shape.points) (guarded w.shown m) (links_of w.shown h m) (links w.shown r)) o)) → ((fresh : Bool) × (verdict w.shown h r ≡ Answer fresh)) ⊎ ((verdict w.shown h r ≡ Full (length (requests h))) × (most_held ≤ length (requests h)))
    go true b p o e v = inl (false, v)
    go false true p o e v = inr (v, leb-true most_held (length (requests h)) p)
    go false false p None e v = inl (true, v)
    go false false p (Some k) e v = absurd (cc)
