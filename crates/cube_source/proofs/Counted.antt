-- The cells that objects protect, cuboid by cuboid.
use Rattle.std.specs.List.{list_any, flat_map, fold}
use Rattle.std.proofs.Common.{◌≡◌, ℕ, zero, suc, ◌+◌, ◌<◌, ◌≤◌, ◌⊎◌, inl, inr, Bool, true, false, cond, ◌&&◌, ◌||◌, List, [], ◌∷◌, length, map, filter, take, get_or, refl, sym, ap, ap₂, ◌∙◌, subst, arith, eqb, leb, ltb, Option, Some, None, ⊎_elim}
use Rattle.std.proofs.lemmas.Bool.{false≢true, and_parts, and_from, or_cases, or_left, or_right, le-leb, ltb-true, ltb-false, lt-ltb}
use Rattle.std.proofs.lemmas.List.{length-map, get_or-map}
use Rattle.std.proofs.lemmas.List.Sums.{fold_more}
use Rattle.cube_model.specs.declared.cell.Cell.{Cell}
use Rattle.cube_model.specs.declared.policy.Object.{Object}
use Rattle.cube_model.specs.Cubes.{Dimension, Public, same, in_order, are_levels, cuboid_count, Each, key_at, covers, places, is_finer, cuboids_below, count_from, IsIn}
use Rattle.cube_model.specs.Cores.{Core, IsCore}
use Rattle.cube_model.specs.Dims.{Dims, plains}
use Rattle.cube_model.specs.Meanings.{IsDistinct}
use Rattle.cube_model.specs.Protection.{in_slice, has_fewer, facts_in, guards, cell_of, touched, under, each_once}
use Rattle.cube_model.specs.Requests.{row_at, rows}
use Rattle.cube_model.proofs.Finer.{is_finer_trans}
use Rattle.cube_model.proofs.Leasts.{once}
use Rattle.cube_model.proofs.Members.{tested, IsIn-filter, filter_has, IsIn-map, map_has, IsIn-flat_map, flat_map_has, IsIn-in_order, same_eq, same_refl}
use Rattle.cube_model.proofs.Objects.{below_finer, finer_below, touched_is, touched_has, each_once_has}
use Rattle.cube_model.proofs.Orders.{place_of, in_order_has}
use Rattle.cube_model.proofs.Sources.{place_below, IsIn-each_once}
use Rattle.cube_model.proofs.Walks.{any_from, any_has, any_alike, same_truth}
use Rattle.cube_source.specs.Blocks.{bare, whole, row_cell}
use Rattle.cube_source.specs.Bounds.{limit, raised, bound_of, bound_over, is_below_bound, AreBounds}
use Rattle.cube_source.specs.Few.{facts_at}
use Rattle.cube_source.specs.Objects.{of_measure, IsPlaced, is_sliced, slice_of, stands_over, cells_over}
use Rattle.cube_source.proofs.Cuts.{row_covers, keys_whole, any_filter}
use Rattle.cube_source.proofs.Fewer.{cell}
use Rattle.cube_source.proofs.FewPlaces.{facts_few}
use Rattle.cube_source.proofs.Growing.{filter_fewer}
use Rattle.cube_source.proofs.Once.{AreApart, apart_cells}
use Rattle.cube_source.proofs.Ordered.{kept_keys}
use Rattle.cube_source.proofs.Repeats.{length-in_order, filter_kept, few_below}
use Rattle.cube_model.proofs.Sums.{length-count_from}

-- ---- flags

index_from : (f : ℕ → Bool) (s n k : ℕ) → k < n → get_or (map f (count_from s n)) k false ≡ f (s + k)
index_from f s zero k h = absurd (omega (arith, h))
index_from f s (suc n) zero h = ap f (omega arith)
index_from f s (suc n) (suc k) h = index_from f (suc s) n k (omega (arith, h)) ∙ ap f (omega arith)

pub flag_at : (f : ℕ → Bool) (n k : ℕ) → k < n → get_or (map f (count_from 0 n)) k false ≡ f k
flag_at f n k l = index_from f 0 n k l ∙ ap f (omega arith)

pub slice_long : (g : Public) (o : Object) → length (slice_of g o) ≡ length g.shape.points
slice_long g o = length-map (places g) (in_slice g o) ∙ length-count_from 0 (length g.shape.points)

-- the flags of an object at its place
pub slice_here : (g : Public) (os : List Object) (slices : List (List Bool)) (i : ℕ) (o : Object) (slice : List Bool) → slices ≡ map (slice_of g) os → i < length os → o ≡ get_or os i o → slice ≡ get_or slices i slice → slice ≡ slice_of g o
slice_here g os slices i o slice all l is here =
    here ∙ ap (λ (xs : List (List Bool)). get_or xs i slice) all ∙ get_or-map (slice_of g) os i o slice l ∙ ap (slice_of g) (sym is)

-- ---- bounds

-- no object, no bound
pub bounds_none : (g : Public) (m : ℕ) (c : List ℕ) (many : ℕ) (bounds : List ℕ) → length bounds ≡ many → ((k : ℕ) → k < many → get_or bounds k 0 ≡ 0) → AreBounds many (bound_over g [] m c) bounds
bounds_none g m c many bounds size h = record { long = size; at = h }

-- one object more
pub bounds_more : (g : Public) (m : ℕ) (c : List ℕ) (os : List Object) (i : ℕ) (o : Object) (slice : List Bool) (old new : List ℕ) → i < length os → o ≡ get_or os i o → slice ≡ slice_of g o
    → length new ≡ length old → ((k : ℕ) → k < length old → get_or new k 0 ≡ raised (get_or old k 0) (cond ((eqb o.measure m && is_finer c o.levels) && get_or slice k false) (limit o.fewer) 0))
    → AreBounds (length g.shape.points) (bound_over g (take i os) m c) old → AreBounds (length g.shape.points) (bound_over g (take (i + 1) os) m c) new
bounds_more g m c os i o slice old new l is own size added f = record {
  long = size ∙ f.long;
  at = λ k b. (
      let whole = f.long in
      added k (omega (arith, b, whole))
      ∙ ap₂ (λ (x : ℕ) (y : Bool). raised x (cond ((eqb o.measure m && is_finer c o.levels) && y) (limit o.fewer) 0)) (f.at k b) (ap (λ (xs : List Bool). get_or xs k false) own ∙ flag_at (in_slice g o) (length g.shape.points) k b)
      ∙ sym (fold_more (λ (most : ℕ) (x : Object). raised most (bound_of g m c k x)) 0 os i o l
      ∙ ap (λ (x : Object). raised (bound_over g (take i os) m c k) (bound_of g m c k x)) (sym is)));
}

below_raised : (n a b : ℕ) → ltb n (raised a b) ≡ (ltb n a || ltb n b)
below_raised n a b = same_truth (ltb n (raised a b)) (ltb n a || ltb n b) there back
  where
    there : ltb n (raised a b) ≡ true → (ltb n a || ltb n b) ≡ true
    there e = go (ltb a b) e
      where
        go : (z : Bool) → ltb n (cond z b a) ≡ true → (ltb n a || ltb n b) ≡ true
        go true q = or_right (ltb n a) (ltb n b) q
        go false q = or_left (ltb n a) (ltb n b) q

    back : (ltb n a || ltb n b) ≡ true → ltb n (raised a b) ≡ true
    back e = go (ltb a b) refl (or_cases (ltb n a) (ltb n b) e)
      where
        go : (z : Bool) → ltb a b ≡ z → (ltb n a ≡ true) ⊎ (ltb n b ≡ true) → ltb n (cond z b a) ≡ true
        go true q (inl h) = let x : n < a = ltb-true n a h in let y : a < b = ltb-true a b q in lt-ltb n b (omega (arith, x, y))
        go true q (inr h) = h
        go false q (inl h) = h
        go false q (inr h) = let x : n < b = ltb-true n b h in let y = ltb-false a b q in lt-ltb n a (omega (arith, x, y))

-- facts that are below the limit of an object are few enough for it
below_limit : (g : Public) (fewer : Option ℕ) (t : Cell) (n : ℕ) → n ≤ 1000000 → n ≡ facts_in g t → ltb n (limit fewer) ≡ has_fewer g fewer t
below_limit g None t n small e = lt-ltb n 4294967295 (omega (arith, small))
below_limit g (Some most) t n small e = ap (λ (k : ℕ). ltb k most) e

below_zero : (n : ℕ) → ltb n 0 ≡ false
below_zero n = tested (ltb n 0) (λ e. let l : n < 0 = ltb-true n 0 e in absurd (omega (arith, l))) (λ e. e)

below_one : (g : Public) (m : ℕ) (c : List ℕ) (i : ℕ) (o : Object) (n : ℕ) → n ≤ 1000000 → n ≡ facts_in g (cell_of g c i) → ltb n (bound_of g m c i o) ≡ (is_finer c o.levels && is_sliced g m c o i)
below_one g m c i o n small e = go (eqb o.measure m) (is_finer c o.levels) (in_slice g o i)
  where
    go : (a b s : Bool) → ltb n (cond ((a && b) && s) (limit o.fewer) 0) ≡ (b && (a && (s && has_fewer g o.fewer (cell_of g c i))))
    go true true true = below_limit g o.fewer (cell_of g c i) n small e
    go true true false = below_zero n
    go true false s = below_zero n
    go false true s = below_zero n
    go false false s = below_zero n

below_from : (g : Public) (m : ℕ) (c : List ℕ) (i : ℕ) (n : ℕ) (most : ℕ) (os : List Object) → n ≤ 1000000 → n ≡ facts_in g (cell_of g c i) → ltb n (fold (λ (z : ℕ) (o : Object). raised z (bound_of g m c i o)) most os) ≡ (ltb n most || stands_over g os m c i)
below_from g m c i n most [] small e = end_false (ltb n most)
  where
    end_false : (b : Bool) → b ≡ (b || false)
    end_false true = refl
    end_false false = refl
below_from g m c i n most (o ∷ os) small e =
    below_from g m c i n (raised most (bound_of g m c i o)) os small e
    ∙ ap (λ (b : Bool). b || stands_over g os m c i) (below_raised n most (bound_of g m c i o) ∙ ap (λ (b : Bool). ltb n most || b) (below_one g m c i o n small e))
    ∙ or_assoc (ltb n most) (is_finer c o.levels && is_sliced g m c o i) (stands_over g os m c i)
  where
    or_assoc : (a b c : Bool) → ((a || b) || c) ≡ (a || (b || c))
    or_assoc true b c = refl
    or_assoc false b c = refl

-- the facts of the cell of a place are below its bound where an object guards it
below_bound : (g : Public) (os : List Object) (m : ℕ) (c : List ℕ) (i n : ℕ) → n ≤ 1000000 → n ≡ facts_in g (cell_of g c i) → ltb n (bound_over g os m c i) ≡ stands_over g os m c i
below_bound g os m c i n small e = below_from g m c i n 0 os small e ∙ ap (λ (b : Bool). b || stands_over g os m c i) (below_zero n)

-- ---- the cells of one cuboid

filter_true : {X : Type 0} (xs : List X) → filter (λ x. true) xs ≡ xs
filter_true [] = refl
filter_true (x ∷ xs) = ap (λ ys. x ∷ ys) (filter_true xs)

-- a row has a place whose bound is above its facts where its cell covers a place that an object guards
row_below : (k : Core) (os : List Object) (m : ℕ) (c key bounds : List ℕ) → IsCore k → AreBounds (length k.shape.points) (bound_over (bare k) os m c) bounds
    → is_below_bound (bare k) bounds (row_at (bare k) (whole c) key) ≡ (list_any (λ i. stands_over (bare k) os m c i && same (key_at (bare k) c i) key) (places (bare k)) && true)
row_below k os m c key bounds ok f =
    let g = bare k in
    let is = filter (covers g (cell c key)) (places g) in
    let n = facts_in g (cell c key) in
    ap (λ (ps : List ℕ). list_any (λ i. ltb (facts_at g ps) (get_or bounds i 0)) ps) (row_covers g c key)
    ∙ any_alike (λ i. ltb n (get_or bounds i 0)) (stands_over g os m c) is (λ i h. (
    let p = IsIn-filter (covers g (cell c key)) i (places g) h in
    ap (ltb n) (f.at i (place_below g i p.1)) ∙ below_bound g os m c i n (facts_few k (cell c key) ok) (ap (λ (x : List ℕ). facts_in g (cell c x)) (sym (same_eq (key_at g c i) key p.0)))))
    ∙ any_filter (stands_over g os m c) (covers g (cell c key)) (places g)
    ∙ and_true (list_any (λ i. stands_over g os m c i && same (key_at g c i) key) (places g))
  where
    and_true : (b : Bool) → b ≡ (b && true)
    and_true true = refl
    and_true false = refl

pub cells_counted : (k : Core) (os : List Object) (m : ℕ) (c bounds : List ℕ) → IsCore k → AreBounds (length k.shape.points) (bound_over (bare k) os m c) bounds
    → length (filter (is_below_bound (bare k) bounds) (rows (bare k) (whole c))) ≡ length (cells_over (bare k) os m c)
cells_counted k os m c bounds ok f =
    let g = bare k in
    let test = is_below_bound g bounds in
    let keep = λ (key : List ℕ). list_any (λ i. stands_over g os m c i && same (key_at g c i) key) (places g) in
    sym (length-map (filter test (rows g (whole c))) (row_cell c))
    ∙ ap length (ap (λ (ks : List (List ℕ)). map (row_cell c) (filter test (map (row_at g (whole c)) ks))) (keys_whole g c)
    ∙ filter_kept (row_at g (whole c)) c test keep (λ t. true) (in_order (map (key_at g c) (places g))) (λ x. refl) (λ x. row_below k os m c x bounds ok f)
    ∙ filter_true (map (cell c) (filter keep (in_order (map (key_at g c) (places g)))))
    ∙ ap (map (cell c)) (sym (kept_keys (key_at g c) (stands_over g os m c) (places g))))

-- where no object of the measure stands at or above a cuboid, none of its cells is protected
pub none_over : (g : Public) (os : List Object) (m : ℕ) (c : List ℕ) → list_any (λ (o : Object). eqb o.measure m && is_finer c o.levels) os ≡ false → (i : ℕ) → stands_over g os m c i ≡ false
none_over g [] m c e i = refl
none_over g (o ∷ os) m c e i = go (eqb o.measure m) (is_finer c o.levels) (guards g o c i) e (none_over g os m c)
  where
    go : (a b s : Bool) → ((a && b) || list_any (λ (o : Object). eqb o.measure m && is_finer c o.levels) os) ≡ false → (list_any (λ (o : Object). eqb o.measure m && is_finer c o.levels) os ≡ false → (i : ℕ) → stands_over g os m c i ≡ false)
        → ((b && (a && s)) || stands_over g os m c i) ≡ false
    go true true s q r = absurd (cc)
    go true false s q r = r q i
    go false true s q r = r q i
    go false false s q r = r q i

filter_none : {X : Type 0} (p : X → Bool) (xs : List X) → ((x : X) → p x ≡ false) → filter p xs ≡ []
filter_none p [] h = refl
filter_none p (x ∷ xs) h = ap₂ (λ (b : Bool) (ys : List _). cond b (x ∷ ys) ys) (h x) (filter_none p xs h)

pub no_cells : (g : Public) (os : List Object) (m : ℕ) (c : List ℕ) → list_any (λ (o : Object). eqb o.measure m && is_finer c o.levels) os ≡ false → 0 ≡ length (cells_over g os m c)
no_cells g os m c e = sym (ap (λ (is : List ℕ). length (map (cell c) (in_order (map (key_at g c) is)))) (filter_none (stands_over g os m c) (places g) (none_over g os m c e)))

pub few_cells : (g : Public) (os : List Object) (m : ℕ) (c : List ℕ) → length (cells_over g os m c) ≤ length g.shape.points
few_cells g os m c =
    let is = filter (stands_over g os m c) (places g) in
    let b = length-map (in_order (map (key_at g c) (filter (stands_over g os m c) (places g)))) (cell c) in
    let d = length-in_order (map (key_at g c) (filter (stands_over g os m c) (places g))) in
    let e = length-map (filter (stands_over g os m c) (places g)) (key_at g c) in
    let f = filter_fewer (stands_over g os m c) (places g) in
    let h = length-count_from 0 (length g.shape.points) in
    omega (arith, b, d, e, f, h)

-- ---- which cells these are

pub over_is : (g : Public) (os : List Object) (m : ℕ) (c : List ℕ) (t : Cell) → IsIn t (cells_over g os m c) → (c ≡ t.levels) × ((i : ℕ) × (i < length g.shape.points) × (stands_over g os m c i ≡ true) × (covers g t i ≡ true))
over_is g os m c t h =
    let test = stands_over g os m c in
    let a = IsIn-map (cell c) t (in_order (map (key_at g c) (filter test (places g)))) h in
    let b = IsIn-map (key_at g c) a.0 (filter test (places g)) (IsIn-in_order a.0 (map (key_at g c) (filter test (places g))) a.1) in
    let p = IsIn-filter test b.0 (places g) b.1 in
    (ap (λ (s : Cell). s.levels) a.2, (b.0, place_below g b.0 p.1, p.0, subst (λ (s : Cell). covers g s b.0 ≡ true) a.2 (ap (λ k. same k a.0) b.2 ∙ same_refl a.0)))

over_has : (g : Public) (os : List Object) (m : ℕ) (t : Cell) (i : ℕ) → i < length g.shape.points → stands_over g os m t.levels i ≡ true → covers g t i ≡ true → IsIn t (cells_over g os m t.levels)
over_has g os m t i l s e =
    let test = stands_over g os m t.levels in
    map_has (cell t.levels) t.key (in_order (map (key_at g t.levels) (filter test (places g))))
    (in_order_has t.key (map (key_at g t.levels) (filter test (places g)))
    (subst (λ k. IsIn k (map (key_at g t.levels) (filter test (places g)))) (same_eq (key_at g t.levels i) t.key e)
    (map_has (key_at g t.levels) i (filter test (places g)) (filter_has test i (places g) s (place_of g i l)))))

pub each_in : {X : Type 0} (P : X → Type 0) (xs : List X) (x : X) → Each P xs → IsIn x xs → P x
each_in P [] x h m = absurd m
each_in P (y ∷ ys) x h (inl e) = subst P e h.0
each_in P (y ∷ ys) x h (inr m) = each_in P ys x h.1 m

-- levels are at most the coarsest
pub under_top : (ds : List Dimension) (ls : List ℕ) → are_levels ds ls ≡ true → is_finer ls (map (λ d. d.levels) ds) ≡ true
under_top [] [] e = refl
under_top [] (l ∷ ls) e = absurd (false≢true e)
under_top (d ∷ ds) [] e = absurd (false≢true e)
under_top (d ∷ ds) (l ∷ ls) e =
    let p = and_parts (leb l d.levels) (are_levels ds ls) e in
    and_from (leb l d.levels) (is_finer ls (map (λ d. d.levels) ds)) p.0 (under_top ds ls p.1)

-- the cell of a place that it covers, at its own cuboid
cell_here : (g : Public) (c : List ℕ) (t : Cell) (i : ℕ) → c ≡ t.levels → covers g t i ≡ true → cell_of g c i ≡ t
cell_here g c t i e h = ap (λ (ls : List ℕ). cell_of g ls i) e ∙ ap (cell t.levels) (same_eq (key_at g t.levels i) t.key h)

over_in_under : (g : Public) (os : List Object) (m : ℕ) (tops : List ℕ) (t : Cell) → IsIn t (flat_map (cells_over g os m) (cuboids_below tops)) → IsIn t (flat_map (under g) (of_measure m os))
over_in_under g os m tops t h =
    let a = IsIn-flat_map (cells_over g os m) t (cuboids_below tops) h in
    let b = over_is g os m a.0 t a.2 in
    let o = any_from (λ (x : Object). is_finer a.0 x.levels && is_sliced g m a.0 x b.1.0) os b.1.2 in
    let p = and_parts (is_finer a.0 o.0.levels) (is_sliced g m a.0 o.0 b.1.0) o.2 in
    let q = and_parts (eqb o.0.measure m) (guards g o.0 a.0 b.1.0) p.1 in
    let w = and_parts (in_slice g o.0 b.1.0) (has_fewer g o.0.fewer (cell_of g a.0 b.1.0)) q.1 in
    let few = subst (λ (u : Cell). has_fewer g o.0.fewer u ≡ true) (cell_here g a.0 t b.1.0 b.0 b.1.3) w.1 in
    flat_map_has (under g) o.0 t (of_measure m os) (filter_has (λ (x : Object). eqb x.measure m) o.0 os q.0 o.1)
    (flat_map_has (touched g o.0) t.levels t (cuboids_below o.0.levels) (finer_below o.0.levels t.levels (subst (λ (ls : List ℕ). is_finer ls o.0.levels ≡ true) b.0 p.0))
    (touched_has g o.0 t b.1.0 few b.1.1 w.0 b.1.3))

pub under_in_over : (g : Public) (os : List Object) (m : ℕ) (tops : List ℕ) (t : Cell) → ((o : Object) → IsIn o os → is_finer o.levels tops ≡ true) → IsIn t (flat_map (under g) (of_measure m os)) → IsIn t (flat_map (cells_over g os m) (cuboids_below tops))
under_in_over g os m tops t top h =
    let o = IsIn-flat_map (under g) t (of_measure m os) h in
    let p = IsIn-filter (λ (x : Object). eqb x.measure m) o.0 os o.1 in
    let c = IsIn-flat_map (touched g o.0) t (cuboids_below o.0.levels) o.2 in
    let d = touched_is g o.0 c.0 t c.2 in
    let at = d.1.1 in
    let few = subst (λ (u : Cell). has_fewer g o.0.fewer u ≡ true) (sym (cell_here g t.levels t at.0 refl at.3)) d.1.0 in
    let finer = subst (λ (ls : List ℕ). is_finer ls o.0.levels ≡ true) d.0 (below_finer o.0.levels c.0 c.1) in
    flat_map_has (cells_over g os m) t.levels t (cuboids_below tops) (finer_below tops t.levels (is_finer_trans t.levels o.0.levels tops finer (top o.0 p.1)))
    (over_has g os m t at.0 at.1
    (any_has (λ (x : Object). is_finer t.levels x.levels && is_sliced g m t.levels x at.0) o.0 os p.1
    (and_from (is_finer t.levels o.0.levels) (is_sliced g m t.levels o.0 at.0) finer (and_from (eqb o.0.measure m) (guards g o.0 t.levels at.0) p.0
    (and_from (in_slice g o.0 at.0) (has_fewer g o.0.fewer (cell_of g t.levels at.0)) at.2 few))))
    at.3)

-- ---- two lists with the same elements, each once

-- the list without one of its elements
without : {X : Type 0} (x : X) (ys : List X) → IsIn x ys → (zs : List X) × (length ys ≡ suc (length zs)) × ((y : X) → IsIn y ys → (x ≡ y) ⊎ IsIn y zs)
without x [] m = absurd m
without x (y ∷ ys) (inl e) = (ys, refl, λ z k. ⊎_elim (λ q. inl (sym e ∙ q)) (λ n. inr n) k)
without x (y ∷ ys) (inr m) =
    let r = without x ys m in
    (y ∷ r.0, ap suc r.1, λ z k. ⊎_elim (λ q. inr (inl q)) (λ n. ⊎_elim (λ q. inl q) (λ j. inr (inr j)) (r.2 z n)) k)

apart_fewer : {X : Type 0} (xs ys : List X) → AreApart xs → ((x : X) → IsIn x xs → IsIn x ys) → length xs ≤ length ys
apart_fewer [] ys a h = omega arith
apart_fewer (x ∷ xs) ys a h =
    let r = without x ys (h x (inl refl)) in
    let size = r.1 in
    let rest = apart_fewer xs r.0 a.1 (λ y m. ⊎_elim (λ e. absurd (a.0 (subst (λ z. IsIn z xs) (sym e) m))) (λ n. n) (r.2 y (h y (inr m)))) in
    omega (arith, size, rest)

apart_once : (ts : List Cell) → IsDistinct ts → AreApart ts
apart_once [] d = tt
apart_once (t ∷ ts) d = (d.0, apart_once ts d.1)

-- so many cells objects protect together
pub all_counted : (g : Public) (s : Dims) (os : List Object) (m : ℕ) → Each (IsPlaced s) os
    → length (flat_map (cells_over g os m) (cuboids_below (map (λ d. d.levels) (plains s)))) ≡ length (each_once (flat_map (under g) (of_measure m os)))
all_counted g s os m placed =
    let tops = map (λ (d : Dimension). d.levels) (plains s) in
    let own = flat_map (cells_over g os m) (cuboids_below tops) in
    let all = each_once (flat_map (under g) (of_measure m os)) in
    let there = apart_fewer own all (apart_cells g (stands_over g os m) tops) (λ t k. each_once_has t (flat_map (under g) (of_measure m os)) (over_in_under g os m tops t k)) in
    let back = apart_fewer all own (apart_once all (once (flat_map (under g) (of_measure m os))))
    (λ t k. under_in_over g os m tops t (λ o j. under_top (plains s) o.levels (each_in (IsPlaced s) os o placed j).levels) (IsIn-each_once t (flat_map (under g) (of_measure m os)) k)) in
    omega (arith, there, back)

-- ---- the coarsest cuboid

pub top_levels : (ds : List Dimension) → are_levels ds (map (λ d. d.levels) ds) ≡ true
top_levels [] = refl
top_levels (d ∷ ds) = and_from (leb d.levels d.levels) (are_levels ds (map (λ d. d.levels) ds)) (le-leb d.levels d.levels (omega arith)) (top_levels ds)

pub top_count : (ds : List Dimension) → length (cuboids_below (map (λ d. d.levels) ds)) ≤ cuboid_count ds
top_count ds = few_below ds (map (λ d. d.levels) ds) (top_levels ds)

-- all cuboids, by the dimensions of a core
pub all_cuboids : (d e : Dims) (cuboids : List (List ℕ)) → e ≡ d → cuboids ≡ cuboids_below (map (λ x. x.levels) (plains e)) → cuboids ≡ cuboids_below (map (λ x. x.levels) (plains d))
all_cuboids d e cuboids is all = all ∙ ap (λ (x : Dims). cuboids_below (map (λ y. y.levels) (plains x))) is
