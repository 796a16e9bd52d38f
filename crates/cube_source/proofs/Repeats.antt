-- The cells of an object that no earlier one protects.
use Rattle.std.specs.List.{list_any, flat_map}
use Rattle.std.proofs.Common.{◌≡◌, ℕ, zero, suc, ◌+◌, ◌*◌, ◌<◌, ◌≤◌, Bool, true, false, cond, not, ◌&&◌, ◌||◌, List, [], ◌∷◌, ◌++◌, length, map, filter, take, get_or, refl, sym, ap, ap₂, ◌∙◌, subst, arith, eqb, leb}
use Rattle.std.proofs.lemmas.Bool.{false≢true, and_parts, and_from, leb-true, eq-eqb}
use Rattle.std.proofs.lemmas.List.{length-map}
use Rattle.std.proofs.Math.Nat.{mul-le-mul_left, mul-le-mul_right}
use Rattle.cube_model.specs.declared.answer.Row.{Row}
use Rattle.cube_model.specs.declared.cell.Cell.{Cell}
use Rattle.cube_model.specs.declared.policy.Object.{Object}
use Rattle.cube_model.specs.Cubes.{Dimension, Public, same, before, in_order, are_levels, cuboid_count, Each, with_key, key_at, covers, places, is_finer, cuboids_below, IsIn}
use Rattle.cube_model.specs.Dims.{Dims}
use Rattle.cube_model.specs.Protection.{in_slice, guards, touched, under, same_cell, each_once}
use Rattle.cube_model.specs.Requests.{row_at, rows}
use Rattle.cube_model.proofs.Members.{IsIn-filter, filter_has, IsIn-flat_map, flat_map_has}
use Rattle.cube_model.proofs.Numbers.{blocks_length}
use Rattle.cube_model.proofs.Objects.{below_finer, finer_below, same_cell_eq, touched_is, touched_has}
use Rattle.cube_model.proofs.Orders.{place_of}
use Rattle.cube_model.proofs.Sources.{place_below, Each-get_or}
use Rattle.cube_model.proofs.Walks.{any_from, any_has, any_alike, same_truth}
use Rattle.cube_source.specs.Blocks.{whole, row_cell}
use Rattle.cube_source.specs.Fresh.{is_fresh, is_repeated}
use Rattle.cube_source.specs.Objects.{of_measure, IsPlaced}
use Rattle.cube_source.proofs.Among.{same_itself}
use Rattle.cube_source.specs.Few.{are_few, guards_row}
use Rattle.cube_source.proofs.Cuts.{row_covers, keys_whole, any_filter}
use Rattle.cube_source.proofs.Fewer.{cell, few_cell, row_guarded}
use Rattle.cube_source.proofs.Growing.{passed_more, failed_more, flat_last, flat_more}
use Rattle.cube_source.proofs.Guards.{any_kept}
use Rattle.cube_source.proofs.Keys.{not_equal}
use Rattle.cube_source.proofs.Once.{apart_under, once_apart, once_append, filter_joined}
use Rattle.cube_source.proofs.Ordered.{kept_keys}

-- ---- which cells are repeated

any_flat_map : {X Y : Type 0} (p : Y → Bool) (f : X → List Y) (xs : List X) → list_any p (flat_map f xs) ≡ list_any (λ x. list_any p (f x)) xs
any_flat_map p f [] = refl
any_flat_map p f (x ∷ xs) = any_append (f x) (flat_map f xs) ∙ ap (λ (b : Bool). list_any p (f x) || b) (any_flat_map p f xs)
  where
    any_append : (ys zs : List _) → list_any p (ys ++ zs) ≡ (list_any p ys || list_any p zs)
    any_append [] zs = refl
    any_append (y ∷ ys) zs = ap (λ (b : Bool). p y || b) (any_append ys zs) ∙ or_assoc (p y) (list_any p ys) (list_any p zs)
      where
        or_assoc : (a b c : Bool) → (a || (b || c)) ≡ ((a || b) || c)
        or_assoc true b c = refl
        or_assoc false b c = refl

-- an object protects a cell where it stands at or above it and guards the places that the cell covers
under_is : (g : Public) (o : Object) (t : Cell) → list_any (same_cell t) (under g o) ≡ (is_finer t.levels o.levels && guards_row g o (filter (covers g t) (places g)))
under_is g o t = same_truth (list_any (same_cell t) (under g o)) (is_finer t.levels o.levels && guards_row g o (filter (covers g t) (places g))) there back
  where
    there : list_any (same_cell t) (under g o) ≡ true → (is_finer t.levels o.levels && guards_row g o (filter (covers g t) (places g))) ≡ true
    there e =
        let s = any_from (same_cell t) (under g o) e in
        let own = subst (λ (u : Cell). IsIn u (under g o)) (sym (same_cell_eq t s.0 s.2)) s.1 in
        let c = IsIn-flat_map (touched g o) t (cuboids_below o.levels) own in
        let d = touched_is g o c.0 t c.2 in
        and_from (is_finer t.levels o.levels) (guards_row g o (filter (covers g t) (places g)))
        (subst (λ (ls : List ℕ). is_finer ls o.levels ≡ true) d.0 (below_finer o.levels c.0 c.1))
        (and_from (list_any (in_slice g o) (filter (covers g t) (places g))) (are_few g o.fewer (filter (covers g t) (places g)))
        (any_has (in_slice g o) d.1.1.0 (filter (covers g t) (places g)) (filter_has (covers g t) d.1.1.0 (places g) d.1.1.3 (place_of g d.1.1.0 d.1.1.1)) d.1.1.2)
        (few_cell g o.fewer t ∙ d.1.0))

    back : (is_finer t.levels o.levels && guards_row g o (filter (covers g t) (places g))) ≡ true → list_any (same_cell t) (under g o) ≡ true
    back e =
        let a = and_parts (is_finer t.levels o.levels) (guards_row g o (filter (covers g t) (places g))) e in
        let s = and_parts (list_any (in_slice g o) (filter (covers g t) (places g))) (are_few g o.fewer (filter (covers g t) (places g))) a.1 in
        let i = any_from (in_slice g o) (filter (covers g t) (places g)) s.0 in
        let b = IsIn-filter (covers g t) i.0 (places g) i.1 in
        any_has (same_cell t) t (under g o)
        (flat_map_has (touched g o) t.levels t (cuboids_below o.levels) (finer_below o.levels t.levels a.0) (touched_has g o t i.0 (sym (few_cell g o.fewer t) ∙ s.1) (place_below g i.0 b.1) i.2 b.0))
        (same_itself t)

and_assoc : (a b c : Bool) → (a && (b && c)) ≡ ((a && b) && c)
and_assoc true b c = refl
and_assoc false b c = refl

-- a row is repeated where its cell is among those of earlier objects
pub repeated_is : (g : Public) (earlier : List Object) (m : ℕ) (c key : List ℕ) → is_repeated g earlier m c (row_at g (whole c) key).places ≡ list_any (same_cell (cell c key)) (flat_map (under g) (of_measure m earlier))
repeated_is g earlier m c key =
    any_alike _ _ earlier (λ o k.
    ap (λ (is : List ℕ). (eqb o.measure m && is_finer c o.levels) && guards_row g o is) (row_covers g c key)
    ∙ sym (and_assoc (eqb o.measure m) (is_finer c o.levels) (guards_row g o (filter (covers g (cell c key)) (places g))))
    ∙ ap (λ (b : Bool). eqb o.measure m && b) (sym (under_is g o (cell c key))))
    ∙ any_kept (λ (o : Object). list_any (same_cell (cell c key)) (under g o)) (λ (o : Object). eqb o.measure m) earlier
    ∙ sym (any_flat_map (same_cell (cell c key)) (under g) (of_measure m earlier))

-- ---- the fresh cells of a cuboid

pub filter_kept : (make : List ℕ → Row) (c : List ℕ) (test : Row → Bool) (keep : List ℕ → Bool) (passes : Cell → Bool) (keys : List (List ℕ)) → ((k : List ℕ) → (make k).key ≡ k) → ((k : List ℕ) → test (make k) ≡ (keep k && passes (cell c k)))
    → map (row_cell c) (filter test (map make keys)) ≡ filter passes (map (cell c) (filter keep keys))
filter_kept make c test keep passes [] own h = refl
filter_kept make c test keep passes (k ∷ ks) own h =
    ap (λ (b : Bool). map (row_cell c) (cond b (make k ∷ filter test (map make ks)) (filter test (map make ks)))) (h k)
    ∙ go (keep k) (passes (cell c k)) refl (filter_kept make c test keep passes ks own h)
  where
    go : (a b : Bool) → passes (cell c k) ≡ b → map (row_cell c) (filter test (map make ks)) ≡ filter passes (map (cell c) (filter keep ks))
        → map (row_cell c) (cond (a && b) (make k ∷ filter test (map make ks)) (filter test (map make ks))) ≡ filter passes (map (cell c) (cond a (k ∷ filter keep ks) (filter keep ks)))
    go true true q r = ap₂ (λ (key : List ℕ) (ts : List Cell). cell c key ∷ ts) (own k) r ∙ sym (ap (λ (b : Bool). cond b (cell c k ∷ filter passes (map (cell c) (filter keep ks))) (filter passes (map (cell c) (filter keep ks)))) q)
    go true false q r = r ∙ sym (ap (λ (b : Bool). cond b (cell c k ∷ filter passes (map (cell c) (filter keep ks))) (filter passes (map (cell c) (filter keep ks)))) q)
    go false true q r = r
    go false false q r = r

-- a row that is new
abbrev pub is_new : Public → List Object → Object → List ℕ → Row → Bool
is_new g earlier o c row = guards_row g o row.places && not (is_repeated g earlier o.measure c row.places)

pub fresh_cells : (g : Public) (earlier : List Object) (o : Object) (c : List ℕ) → map (row_cell c) (filter (is_new g earlier o c) (rows g (whole c))) ≡ filter (is_fresh g earlier o.measure) (touched g o c)
fresh_cells g earlier o c =
    ap (λ (ks : List (List ℕ)). map (row_cell c) (filter (is_new g earlier o c) (map (row_at g (whole c)) ks))) (keys_whole g c)
    ∙ filter_kept (row_at g (whole c)) c (is_new g earlier o c) (λ k. list_any (λ i. guards g o c i && same (key_at g c i) k) (places g)) (is_fresh g earlier o.measure) (in_order (map (key_at g c) (places g)))
    (λ k. refl)
    (λ k. ap₂ (λ (a b : Bool). a && not b)
    (ap (guards_row g o) (row_covers g c k) ∙ row_guarded g o c k ∙ any_filter (guards g o c) (covers g (cell c k)) (places g))
    (repeated_is g earlier o.measure c k))
    ∙ ap (λ (ks : List (List ℕ)). filter (is_fresh g earlier o.measure) (map (cell c) ks)) (sym (kept_keys (key_at g c) (guards g o c) (places g)))

-- ---- one object more

-- the cells of some objects and of one more
pub one_more : (g : Public) (earlier : List Object) (m : ℕ) (o : Object) → each_once (flat_map (under g) (of_measure m earlier) ++ under g o) ≡ each_once (flat_map (under g) (of_measure m earlier)) ++ filter (is_fresh g earlier m) (under g o)
one_more g earlier m o =
    once_append (flat_map (under g) (of_measure m earlier)) (under g o)
    ∙ ap (λ (ts : List Cell). each_once (flat_map (under g) (of_measure m earlier)) ++ filter (is_fresh g earlier m) ts) (once_apart (under g o) (apart_under g o))

-- the same at a place among objects
pub object_more : (g : Public) (m : ℕ) (os : List Object) (i : ℕ) (o : Object) → i < length os → o ≡ get_or os i o → o.measure ≡ m
    → each_once (flat_map (under g) (of_measure m (take (i + 1) os))) ≡ each_once (flat_map (under g) (of_measure m (take i os))) ++ filter (is_fresh g (take i os) o.measure) (under g o)
object_more g m os i o l is e =
    ap (λ (xs : List Object). each_once (flat_map (under g) xs)) (passed_more (λ (x : Object). eqb x.measure m) os i o l is (eq-eqb o.measure m e))
    ∙ ap each_once (flat_last (under g) (of_measure m (take i os)) o)
    ∙ one_more g (take i os) m o
    ∙ ap (λ (k : ℕ). each_once (flat_map (under g) (of_measure m (take i os))) ++ filter (is_fresh g (take i os) k) (under g o)) (sym e)

pub object_other : (g : Public) (m : ℕ) (os : List Object) (i : ℕ) (o : Object) → i < length os → o ≡ get_or os i o → (o.measure ≡ m → ⊥)
    → each_once (flat_map (under g) (of_measure m (take (i + 1) os))) ≡ each_once (flat_map (under g) (of_measure m (take i os)))
object_other g m os i o l is d = ap (λ (xs : List Object). each_once (flat_map (under g) xs)) (failed_more (λ (x : Object). eqb x.measure m) os i o l is (not_equal o.measure m d))

pub placed_taken : (s : Dims) (os : List Object) (i : ℕ) → Each (IsPlaced s) os → Each (IsPlaced s) (take i os)
placed_taken s os zero h = tt
placed_taken s [] (suc i) h = tt
placed_taken s (o ∷ os) (suc i) h = (h.0, placed_taken s os i h.1)

pub placed_at : (s : Dims) (os : List Object) (i : ℕ) (o : Object) → Each (IsPlaced s) os → i < length os → o ≡ get_or os i o → IsPlaced s o
placed_at s os i o h l is = subst (IsPlaced s) (sym is) (Each-get_or (IsPlaced s) os i o h l)

-- the fresh cells of one cuboid more
pub cuboid_more : (g : Public) (earlier : List Object) (o : Object) (cuboids : List (List ℕ)) (i : ℕ) (c : List ℕ) → i < length cuboids → c ≡ get_or cuboids i c
    → filter (is_fresh g earlier o.measure) (flat_map (touched g o) (take (i + 1) cuboids)) ≡ filter (is_fresh g earlier o.measure) (flat_map (touched g o) (take i cuboids)) ++ filter (is_fresh g earlier o.measure) (touched g o c)
cuboid_more g earlier o cuboids i c l is = ap (filter (is_fresh g earlier o.measure)) (flat_more (touched g o) cuboids i c l is) ∙ filter_joined (is_fresh g earlier o.measure) (flat_map (touched g o) (take i cuboids)) (touched g o c)

-- ---- how many there are at most

length-with_key : (k : List ℕ) (ks : List (List ℕ)) → length (with_key k ks) ≤ suc (length ks)
length-with_key k [] = omega arith
length-with_key k (a ∷ ks) = go (same k a) (before k a) (length-with_key k ks)
  where
    go : (x y : Bool) → length (with_key k ks) ≤ suc (length ks) → length (cond x (a ∷ ks) (cond y (k ∷ a ∷ ks) (a ∷ with_key k ks))) ≤ suc (suc (length ks))
    go true y r = omega arith
    go false true r = omega arith
    go false false r = omega (arith, r)

pub length-in_order : (ks : List (List ℕ)) → length (in_order ks) ≤ length ks
length-in_order [] = omega arith
length-in_order (k ∷ ks) = let a = length-with_key k (in_order ks) in let b = length-in_order ks in omega (arith, a, b)

-- there are at most as many cuboids below one as there are cuboids
pub few_below : (ds : List Dimension) (ls : List ℕ) → are_levels ds ls ≡ true → length (cuboids_below ls) ≤ cuboid_count ds
few_below [] [] e = omega arith
few_below [] (l ∷ ls) e = absurd (false≢true e)
few_below (d ∷ ds) [] e = absurd (false≢true e)
few_below (d ∷ ds) (l ∷ ls) e =
    let p = and_parts (leb l d.levels) (are_levels ds ls) e in
    let low : suc l ≤ suc d.levels = (let q = leb-true l d.levels p.0 in omega (arith, q)) in
    let rest = few_below ds ls p.1 in
    let size : length (cuboids_below (l ∷ ls)) ≡ suc l * length (cuboids_below ls) = blocks_length (λ a. map (λ rest. a ∷ rest) (cuboids_below ls)) (length (cuboids_below ls)) (λ a. length-map (cuboids_below ls) (λ rest. a ∷ rest)) 0 (suc l) in
    let a : suc l * length (cuboids_below ls) ≤ suc l * cuboid_count ds = mul-le-mul_left (suc l) rest in
    let b : suc l * cuboid_count ds ≤ suc d.levels * cuboid_count ds = mul-le-mul_right (cuboid_count ds) low in
    omega (arith, size, a, b)
