-- What it is that a block parts a cell.
use Rattle.std.specs.List.{list_any, All}
use Rattle.std.proofs.Common.{◌≡◌, ℕ, suc, ◌<◌, inl, inr, Bool, true, false, cond, not, ◌&&◌, ◌||◌, List, [], ◌∷◌, length, map, filter, find, get_or, Some, None, refl, sym, ap, ap₂, ◌∙◌, subst, arith}
use Rattle.std.specs.Option.{option_map}
use Rattle.std.proofs.lemmas.Bool.{false≢true, and_parts, and_from, not-true, not_from_false}
use Rattle.cube_model.specs.declared.answer.Row.{Row}
use Rattle.cube_model.specs.declared.cell.Cell.{Cell}
use Rattle.cube_model.specs.declared.policy.Object.{Object}
use Rattle.cube_model.specs.Cubes.{Dimension, Public, same, in_order, key_at, together, covers, places, point, IsIn}
use Rattle.cube_model.specs.Meanings.{Cuts}
use Rattle.cube_model.specs.Requests.{is_picked, in_picks, in_row, row_keys, row_at, rows}
use Rattle.cube_model.specs.Protection.{listed, in_slice, has_fewer, guards, cell_of, touched, is_cut}
use Rattle.cube_model.proofs.Leasts.{fails}
use Rattle.cube_model.proofs.Members.{tested, IsIn-filter, filter_has, IsIn-map, IsIn-in_order, same_eq, same_refl}
use Rattle.cube_model.proofs.Orders.{cut_is_cuts, rows_are_rows, place_of}
use Rattle.cube_model.proofs.Sources.{place_below}
use Rattle.cube_model.proofs.Walks.{any_from, any_has, listed_from, listed_has, same_truth}
use Rattle.cube_source.specs.Blocks.{whole, is_split, is_mixed, is_parted, AreBlocks, AreFlags}
use Rattle.cube_source.specs.Few.{guards_row}
use Rattle.cube_source.proofs.Fewer.{cell, row_guarded}
use Rattle.cube_source.proofs.Ordered.{kept_keys}

-- ---- the request of all places

all_in : (ds : List Dimension) (ls x : List ℕ) → in_picks ds (map (λ (l : ℕ). None) ls) x ≡ true
all_in [] ls x = refl
all_in (d ∷ ds) [] x = refl
all_in (d ∷ ds) (l ∷ ls) [] = refl
all_in (d ∷ ds) (l ∷ ls) (x ∷ xs) = all_in ds ls xs

-- each place is picked
pub all_picked : (g : Public) (c : List ℕ) (i : ℕ) → is_picked g (whole c) i ≡ true
unfolding is_picked
all_picked g c i = all_in g.dimensions c (point g i)

pub filter_alike : {X : Type 0} (p q : X → Bool) (xs : List X) → ((x : X) → p x ≡ q x) → filter p xs ≡ filter q xs
filter_alike p q [] h = refl
filter_alike p q (x ∷ xs) h = ap₂ (λ (b : Bool) (ys : List _). cond b (x ∷ ys) ys) (h x) (filter_alike p q xs h)

filter_whole : {X : Type 0} (p : X → Bool) (xs : List X) → ((x : X) → p x ≡ true) → filter p xs ≡ xs
filter_whole p [] h = refl
filter_whole p (x ∷ xs) h = ap₂ (λ (b : Bool) (ys : List _). cond b (x ∷ ys) ys) (h x) (filter_whole p xs h)

-- the places of a row are those that its cell covers
pub row_covers : (g : Public) (c key : List ℕ) → (row_at g (whole c) key).places ≡ filter (covers g (record { levels = c; key = key })) (places g)
row_covers g c key = filter_alike (in_row g (whole c) key) (covers g (record { levels = c; key = key })) (places g) (λ i. ap (λ b. b && same (key_at g c i) key) (all_picked g c i))

pub keys_whole : (g : Public) (c : List ℕ) → row_keys g (whole c) ≡ in_order (map (key_at g c) (places g))
keys_whole g c = ap (λ (is : List ℕ). in_order (map (key_at g c) is)) (filter_whole (is_picked g (whole c)) (places g) (all_picked g c))

-- ---- blocks and cells

pub first_in : (is : List ℕ) (j : ℕ) → IsIn j is → IsIn (get_or is 0 0) is
first_in [] j h = absurd h
first_in (i ∷ is) j h = inl refl

at_in : {X : Type 0} (P : X → Type 0) (xs : List X) (x : X) → ((k : ℕ) (d : X) → k < length xs → P (get_or xs k d)) → IsIn x xs → P x
at_in P [] x h m = absurd m
at_in P (y ∷ ys) x h (inl e) = subst P e (h 0 y (omega arith))
at_in P (y ∷ ys) x h (inr m) = at_in P ys x (λ k d l. h (suc k) d (omega (arith, l))) m

pub block_below : (many : ℕ) (blocks : List Row) (block : Row) (i : ℕ) → AreBlocks many blocks → IsIn block blocks → IsIn i block.places → i < many
block_below many blocks block i are m h =
    let own = at_in (λ (r : Row). All (λ place. place < many) r.places) blocks block (λ k d l. (are k d l).below) m in
    at_in (λ (j : ℕ). j < many) block.places i own h

-- two places of one cuboid with a covered one are both covered where it has them together
joined : (g : Public) (t : Cell) (i j : ℕ) → covers g t i ≡ true → together g t.levels i j ≡ true → covers g t j ≡ true
joined g t i j a b = ap (λ (k : List ℕ). same k t.key) (sym (same_eq (key_at g t.levels i) (key_at g t.levels j) b)) ∙ a

both_covered : (g : Public) (t : Cell) (i j : ℕ) → covers g t i ≡ true → covers g t j ≡ true → together g t.levels i j ≡ true
both_covered g t i j a b = ap₂ same (same_eq (key_at g t.levels i) t.key a) (same_eq (key_at g t.levels j) t.key b) ∙ same_refl t.key

turned : (g : Public) (c : List ℕ) (i j : ℕ) → together g c i j ≡ true → together g c j i ≡ true
turned g c i j e = ap (λ (k : List ℕ). same k (key_at g c i)) (sym (same_eq (key_at g c i) (key_at g c j) e)) ∙ same_refl (key_at g c i)

-- a cell is parted where one of its places stands in a block whose places do not all have one key at its cuboid
pub parted_is : (g : Public) (blocks : List Row) (t : Cell) (flags : List Bool) → AreBlocks (length g.shape.points) blocks → AreFlags (length g.shape.points) (is_mixed g t.levels blocks) flags
    → list_any (λ i. get_or flags i false) (filter (covers g t) (places g)) ≡ is_parted g blocks t
parted_is g blocks t flags are f = same_truth (list_any (λ i. get_or flags i false) (filter (covers g t) (places g))) (is_parted g blocks t) there back
  where
    there : list_any (λ i. get_or flags i false) (filter (covers g t) (places g)) ≡ true → is_parted g blocks t ≡ true
    there e =
        let a = any_from (λ i. get_or flags i false) (filter (covers g t) (places g)) e in
        let i = IsIn-filter (covers g t) a.0 (places g) a.1 in
        let b = any_from (λ block. is_split g t.levels block.places && listed a.0 block.places) blocks (sym (f.at a.0 (place_below g a.0 i.1)) ∙ a.2) in
        let s = and_parts (is_split g t.levels b.0.places) (listed a.0 b.0.places) b.2 in
        let j = any_from (λ j. not (together g t.levels (get_or b.0.places 0 0) j)) b.0.places s.0 in
        let apart = not-true (together g t.levels (get_or b.0.places 0 0) j.0) j.2 in
        any_has (λ block. list_any (covers g t) block.places && list_any (λ j. not (covers g t j)) block.places) b.0 blocks b.1
        (and_from (list_any (covers g t) b.0.places) (list_any (λ j. not (covers g t j)) b.0.places)
        (any_has (covers g t) a.0 b.0.places (listed_from a.0 b.0.places s.1) i.0)
        (tested (covers g t (get_or b.0.places 0 0))
        (λ c. any_has (λ j. not (covers g t j)) j.0 b.0.places j.1 (tested (covers g t j.0)
        (λ d. absurd (false≢true (sym apart ∙ both_covered g t (get_or b.0.places 0 0) j.0 c d)))
        (λ d. not_from_false (covers g t j.0) d)))
        (λ c. any_has (λ j. not (covers g t j)) (get_or b.0.places 0 0) b.0.places (first_in b.0.places j.0 j.1) (not_from_false (covers g t (get_or b.0.places 0 0)) c))))

    back : is_parted g blocks t ≡ true → list_any (λ i. get_or flags i false) (filter (covers g t) (places g)) ≡ true
    back e =
        let b = any_from (λ block. list_any (covers g t) block.places && list_any (λ j. not (covers g t j)) block.places) blocks e in
        let s = and_parts (list_any (covers g t) b.0.places) (list_any (λ j. not (covers g t j)) b.0.places) b.2 in
        let i = any_from (covers g t) b.0.places s.0 in
        let j = any_from (λ j. not (covers g t j)) b.0.places s.1 in
        let below = block_below (length g.shape.points) blocks b.0 i.0 are b.1 i.1 in
        let other = not-true (covers g t j.0) j.2 in
        let f1 = get_or b.0.places 0 0 in
        let split : is_split g t.levels b.0.places ≡ true = tested (together g t.levels f1 i.0)
        (λ c. any_has (λ j. not (together g t.levels f1 j)) j.0 b.0.places j.1 (tested (together g t.levels f1 j.0)
        (λ d. absurd (false≢true (sym other ∙ joined g t f1 j.0 (joined g t i.0 f1 i.2 (turned g t.levels f1 i.0 c)) d)))
        (λ d. not_from_false (together g t.levels f1 j.0) d)))
        (λ c. any_has (λ j. not (together g t.levels f1 j)) i.0 b.0.places i.1 (not_from_false (together g t.levels f1 i.0) c)) in
        any_has (λ i. get_or flags i false) i.0 (filter (covers g t) (places g)) (filter_has (covers g t) i.0 (places g) i.2 (place_of g i.0 below))
        (f.at i.0 below ∙ any_has (λ block. is_split g t.levels block.places && listed i.0 block.places) b.0 blocks b.1
        (and_from (is_split g t.levels b.0.places) (listed i.0 b.0.places) split (listed_has i.0 b.0.places i.1)))

-- the blocks of a cuboid part the cells that it cuts
pub cut_is : (g : Public) (c : List ℕ) (t : Cell) → is_parted g (rows g (whole c)) t ≡ is_cut g c t
cut_is g c t = same_truth (is_parted g (rows g (whole c)) t) (is_cut g c t) there back
  where
    there : is_parted g (rows g (whole c)) t ≡ true → is_cut g c t ≡ true
    there e =
        let b = any_from (λ block. list_any (covers g t) block.places && list_any (λ j. not (covers g t j)) block.places) (rows g (whole c)) e in
        let s = and_parts (list_any (covers g t) b.0.places) (list_any (λ j. not (covers g t j)) b.0.places) b.2 in
        let i = any_from (covers g t) b.0.places s.0 in
        let j = any_from (λ j. not (covers g t j)) b.0.places s.1 in
        let p = ((rows_are_rows g (whole c)).exactly b.0 b.1 i.0).0 i.1 in
        let q = ((rows_are_rows g (whole c)).exactly b.0 b.1 j.0).0 j.1 in
        (cut_is_cuts g c t).1 (i.0, j.0, p.0, q.0, i.2, not-true (covers g t j.0) j.2, ap₂ same p.2 q.2 ∙ same_refl b.0.key)

    back : is_cut g c t ≡ true → is_parted g (rows g (whole c)) t ≡ true
    back e =
        let a : Cuts g c t = (cut_is_cuts g c t).0 e in
        let r = (rows_are_rows g (whole c)).complete a.0 a.2 (all_picked g c a.0) in
        let p = ((rows_are_rows g (whole c)).exactly r.0 r.1 a.0).0 r.2 in
        let q = ((rows_are_rows g (whole c)).exactly r.0 r.1 a.1).1 (a.3, all_picked g c a.1, sym (same_eq (key_at g c a.0) (key_at g c a.1) a.6) ∙ p.2) in
        any_has (λ block. list_any (covers g t) block.places && list_any (λ j. not (covers g t j)) block.places) r.0 (rows g (whole c)) r.1
        (and_from (list_any (covers g t) r.0.places) (list_any (λ j. not (covers g t j)) r.0.places)
        (any_has (covers g t) a.0 r.0.places r.2 a.4)
        (any_has (λ j. not (covers g t j)) a.1 r.0.places q (not_from_false (covers g t a.1) a.5)))

-- ---- the first cell of a cuboid

pub any_filter : {X : Type 0} (p q : X → Bool) (xs : List X) → list_any p (filter q xs) ≡ list_any (λ x. p x && q x) xs
any_filter p q [] = refl
any_filter p q (x ∷ xs) = step (p x) (q x) (filter q xs) (list_any (λ x. p x && q x) xs) (any_filter p q xs) refl
  where
    step : (a b : Bool) (rest : List _) (r : Bool) → list_any p rest ≡ r → p x ≡ a → list_any p (cond b (x ∷ rest) rest) ≡ ((a && b) || r)
    step true true rest r e f = ap₂ (λ (u v : Bool). u || v) f e
    step true false rest r e f = e
    step false true rest r e f = ap₂ (λ (u v : Bool). u || v) f e
    step false false rest r e f = e

-- where each place of the slice is flagged, each protected cell of the cuboid is parted
pub all_parted : (g : Public) (o : Object) (c : List ℕ) (blocks : List Row) (flags : List Bool) → AreBlocks (length g.shape.points) blocks → AreFlags (length g.shape.points) (is_mixed g c blocks) flags
    → list_any (λ i. not (get_or flags i false) && in_slice g o i) (places g) ≡ false → None ≡ find (λ t. not (is_parted g blocks t)) (touched g o c)
all_parted g o c blocks flags are f none = sym (fails (λ t. not (is_parted g blocks t)) (touched g o c) parted)
  where
    flagged : (i : ℕ) → IsIn i (places g) → in_slice g o i ≡ true → get_or flags i false ≡ true
    flagged i m s = tested (get_or flags i false) (λ e. e)
        (λ e. absurd (false≢true (sym none ∙ any_has (λ i. not (get_or flags i false) && in_slice g o i) i (places g) m (and_from (not (get_or flags i false)) (in_slice g o i) (not_from_false (get_or flags i false) e) s))))

    parted : (t : Cell) → IsIn t (touched g o c) → not (is_parted g blocks t) ≡ false
    parted t m =
        let k = IsIn-map (cell c) t (in_order (map (key_at g c) (filter (guards g o c) (places g)))) m in
        let i = IsIn-map (key_at g c) k.0 (filter (guards g o c) (places g)) (IsIn-in_order k.0 (map (key_at g c) (filter (guards g o c) (places g))) k.1) in
        let p = IsIn-filter (guards g o c) i.0 (places g) i.1 in
        let covered : covers g (cell c k.0) i.0 ≡ true = ap (λ (x : List ℕ). same x k.0) i.2 ∙ same_refl k.0 in
        let here : is_parted g blocks (cell c k.0) ≡ true = sym (parted_is g blocks (cell c k.0) flags are f)
        ∙ any_has (λ i. get_or flags i false) i.0 (filter (covers g (cell c k.0)) (places g)) (filter_has (covers g (cell c k.0)) i.0 (places g) covered p.1) (flagged i.0 p.1 (and_parts (in_slice g o i.0) (has_fewer g o.fewer (cell_of g c i.0)) p.0).0) in
        ap (λ (u : Cell). not (is_parted g blocks u)) (sym k.2) ∙ ap not here

-- a row that passes is a kept key whose cell passes
pub find_kept : (make : List ℕ → Row) (c : List ℕ) (test : Row → Bool) (keep : List ℕ → Bool) (passes : Cell → Bool) (keys : List (List ℕ)) → ((k : List ℕ) → (make k).key ≡ k) → ((k : List ℕ) → test (make k) ≡ (keep k && passes (cell c k)))
    → option_map (λ (r : Row). cell c r.key) (find test (map make keys)) ≡ find passes (map (cell c) (filter keep keys))
find_kept make c test keep passes [] own h = refl
find_kept make c test keep passes (k ∷ ks) own h =
    ap (λ (b : Bool). option_map (λ (r : Row). cell c r.key) (cond b (Some (make k)) (find test (map make ks)))) (h k)
    ∙ go (keep k) (passes (cell c k)) refl (find_kept make c test keep passes ks own h)
  where
    go : (a b : Bool) → passes (cell c k) ≡ b → option_map (λ (r : Row). cell c r.key) (find test (map make ks)) ≡ find passes (map (cell c) (filter keep ks))
        → option_map (λ (r : Row). cell c r.key) (cond (a && b) (Some (make k)) (find test (map make ks))) ≡ find passes (map (cell c) (cond a (k ∷ filter keep ks) (filter keep ks)))
    go true true q r = ap (λ (key : List ℕ). Some (cell c key)) (own k) ∙ sym (ap (λ (b : Bool). cond b (Some (cell c k)) (find passes (map (cell c) (filter keep ks)))) q)
    go true false q r = r ∙ sym (ap (λ (b : Bool). cond b (Some (cell c k)) (find passes (map (cell c) (filter keep ks)))) q)
    go false true q r = r
    go false false q r = r

-- the first row that the object guards, with no place that is flagged, is the first protected cell of the cuboid that no block parts
pub first_cell : (g : Public) (o : Object) (c : List ℕ) (blocks : List Row) (flags : List Bool) → AreBlocks (length g.shape.points) blocks → AreFlags (length g.shape.points) (is_mixed g c blocks) flags
    → option_map (λ (r : Row). cell c r.key) (find (λ row. guards_row g o row.places && not (list_any (λ i. get_or flags i false) row.places)) (rows g (whole c))) ≡ find (λ t. not (is_parted g blocks t)) (touched g o c)
first_cell g o c blocks flags are f =
    ap (λ (ks : List (List ℕ)). option_map (λ (r : Row). cell c r.key) (find (λ row. guards_row g o row.places && not (list_any (λ i. get_or flags i false) row.places)) (map (row_at g (whole c)) ks))) (keys_whole g c)
    ∙ find_kept (row_at g (whole c)) c (λ row. guards_row g o row.places && not (list_any (λ i. get_or flags i false) row.places)) (λ k. list_any (λ i. guards g o c i && same (key_at g c i) k) (places g)) (λ t. not (is_parted g blocks t)) (in_order (map (key_at g c) (places g)))
    (λ k. refl)
    (λ k. ap₂ (λ (a b : Bool). a && not b)
    (ap (guards_row g o) (row_covers g c k) ∙ row_guarded g o c k ∙ any_filter (guards g o c) (covers g (cell c k)) (places g))
    (ap (list_any (λ i. get_or flags i false)) (row_covers g c k) ∙ parted_is g blocks (cell c k) flags are f))
    ∙ ap (λ (ks : List (List ℕ)). find (λ t. not (is_parted g blocks t)) (map (cell c) ks)) (sym (kept_keys (key_at g c) (guards g o c) (places g)))
