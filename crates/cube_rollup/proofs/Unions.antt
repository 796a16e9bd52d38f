-- Each row of a request is a union of cells of a cuboid that is finer than or equal to its grain.
use Rattle.std.proofs.Common.{◌≡◌, ℕ, zero, suc, ◌+◌, ◌<◌, inl, inr, Bool, true, ◌&&◌, List, [], ◌∷◌, length, map, filter, get_or, ℤ, pos, refl, sym, ap, ap₂, ◌∙◌, subst, arith}
use Rattle.std.proofs.lemmas.List.{length-map}
use Rattle.cube_model.specs.declared.answer.AnswerRow.{AnswerRow}
use Rattle.cube_model.specs.declared.request.Request.{Request}
use Rattle.cube_model.specs.Cubes.{Public, same, count_from, places, point, key_at, ancestors, is_finer, Each, IsIn, IsPoint, IsHierarchy}
use Rattle.cube_model.specs.Requests.{is_picked, in_picks, in_row, row_keys, row_at, rows, total, grain, fits}
use Rattle.cube_model.proofs.Boxes.{same_increasing}
use Rattle.cube_model.proofs.Finer.{alike}
use Rattle.cube_model.proofs.Members.{same_eq, same_refl, IsIn-filter, filter_has, IsIn-map, map_has, count_from_has, IsIn-in_order}
use Rattle.cube_model.proofs.Orders.{in_order_has, in_order_increasing}
use Rattle.cube_model.proofs.Sources.{Each-get_or, place_below}
use Rattle.cube_model.proofs.Sums.{gather}
use Rattle.cube_rollup.specs.Cuboids.{cell_keys, covered_at, first_point}
use Rattle.cube_core.specs.Tallies.{summed_row}
use Rattle.cube_rollup.proofs.Sums.{at_key, partition, at_positions, total-gather}

-- the cells as places, each with the first point that it covers
abbrev pub cells_of : Public → List ℕ → Public
cells_of g levels = record { dimensions = g.dimensions; policy = g.policy; shape = record { points = map (first_point g levels) (cell_keys g levels); facts = [] } }

-- the first place of a cell
abbrev pub first_place : Public → List ℕ → List ℕ → ℕ
first_place g levels key = get_or (covered_at g levels key) 0 0

-- it is one that the cell covers
pub record IsFirst (g : Public) (levels key : List ℕ) : Type 0 where
  pub place : IsIn (first_place g levels key) (places g)
  pub key_is : key_at g levels (first_place g levels key) ≡ key
  pub some : 0 < length (covered_at g levels key)

head_in : (xs : List ℕ) (i : ℕ) → IsIn i xs → IsIn (get_or xs 0 0) xs × (0 < length xs)
head_in [] i m = absurd m
head_in (x ∷ xs) i m = (inl refl, omega arith)

pub is_first : (g : Public) (levels key : List ℕ) → IsIn key (cell_keys g levels) → IsFirst g levels key
is_first g levels key m =
    let a = IsIn-map (key_at g levels) key (places g) (IsIn-in_order key (map (key_at g levels) (places g)) m) in
    let covered_one : IsIn a.0 (covered_at g levels key) = filter_has (λ i. same (key_at g levels i) key) a.0 (places g) (ap (λ k. same k key) a.2 ∙ same_refl key) a.1 in
    let head = head_in (covered_at g levels key) a.0 covered_one in
    let b = IsIn-filter (λ i. same (key_at g levels i) key) (first_place g levels key) (places g) head.0 in
    record { place = b.1; key_is = same_eq (key_at g levels (first_place g levels key)) key b.0; some = head.1 }

-- each place is in a cell
pub has_cell : (g : Public) (levels : List ℕ) (i : ℕ) → IsIn i (places g) → IsIn (key_at g levels i) (cell_keys g levels)
has_cell g levels i m = in_order_has (key_at g levels i) (map (key_at g levels) (places g)) (map_has (key_at g levels) i (places g) m)

read_map : (f : List ℕ → List ℕ) (ks : List (List ℕ)) (j : ℕ) → j < length ks → get_or (map f ks) j [] ≡ f (get_or ks j [])
read_map f [] j l = absurd (omega (arith, l))
read_map f (k ∷ ks) zero l = refl
read_map f (k ∷ ks) (suc j) l = read_map f ks j (omega (arith, l))

key_in : (ks : List (List ℕ)) (j : ℕ) → j < length ks → IsIn (get_or ks j []) ks
key_in [] j l = absurd (omega (arith, l))
key_in (k ∷ ks) zero l = inl refl
key_in (k ∷ ks) (suc j) l = inr (key_in ks j (omega (arith, l)))

position_of : (ks : List (List ℕ)) (k : List ℕ) → IsIn k ks → (j : ℕ) × (j < length ks) × (get_or ks j [] ≡ k)
position_of [] k m = absurd m
position_of (x ∷ ks) k (inl e) = (0, omega arith, e)
position_of (x ∷ ks) k (inr m) = let r = position_of ks k m in let l : r.0 < length ks = r.1 in (suc r.0, omega (arith, l), r.2)

-- two places that a request does not tell apart
pub record AreAlike (g h : Public) (r : Request) (i j : ℕ) : Type 0 where
  pub group : key_at g r.group i ≡ key_at h r.group j
  pub picked : is_picked g r i ≡ is_picked h r j

-- a cell as a place is its first place
cell_alike : (g : Public) (levels : List ℕ) (r : Request) (j : ℕ) → j < length (cell_keys g levels) → AreAlike (cells_of g levels) g r j (first_place g levels (get_or (cell_keys g levels) j []))
unfolding key_at is_picked
cell_alike g levels r j l =
    let e : point (cells_of g levels) j ≡ point g (first_place g levels (get_or (cell_keys g levels) j [])) = read_map (first_point g levels) (cell_keys g levels) j l in
    record { group = ap (ancestors g.dimensions r.group) e; picked = ap (in_picks g.dimensions r.picks) e }

-- what holds of a request that is answered from cells at some levels
pub record CanAnswer (g : Public) (levels : List ℕ) (r : Request) : Type 0 where
  pub hierarchies : Each IsHierarchy g.dimensions
  pub points : Each (IsPoint g.dimensions) g.shape.points
  pub fitting : fits g.dimensions r.group r.picks ≡ true
  pub finer : is_finer levels (grain r) ≡ true

-- and each place is as the first of its cell
place_alike : (g : Public) (levels : List ℕ) (r : Request) (i : ℕ) → CanAnswer g levels r → IsIn i (places g) → AreAlike g g r i (first_place g levels (key_at g levels i))
unfolding key_at is_picked grain
place_alike g levels r i can m =
    let a = is_first g levels (key_at g levels i) (has_cell g levels i m) in
    let together : same (key_at g levels i) (key_at g levels (first_place g levels (key_at g levels i))) ≡ true = ap (λ k. same (key_at g levels i) k) a.key_is ∙ same_refl (key_at g levels i) in
    let x = Each-get_or (IsPoint g.dimensions) g.shape.points i [] can.points (place_below g i m) in
    let y = Each-get_or (IsPoint g.dimensions) g.shape.points (first_place g levels (key_at g levels i)) [] can.points (place_below g (first_place g levels (key_at g levels i)) a.place) in
    let k = alike g.dimensions levels r.group r.picks (point g i) (point g (first_place g levels (key_at g levels i))) can.hierarchies x y can.fitting can.finer together in
    record { group = k.0; picked = k.1 }

count_cells : (g : Public) (levels : List ℕ) → length (cells_of g levels).shape.points ≡ length (cell_keys g levels)
count_cells g levels = length-map (cell_keys g levels) (first_point g levels)

cell_below : (g : Public) (levels : List ℕ) (j : ℕ) → IsIn j (places (cells_of g levels)) → j < length (cell_keys g levels)
cell_below g levels j m = let l = place_below (cells_of g levels) j m in let e = count_cells g levels in omega (arith, l, e)

-- the rows of the cells have the keys of the rows
same_keys : (g : Public) (levels : List ℕ) (r : Request) → CanAnswer g levels r → row_keys (cells_of g levels) r ≡ row_keys g r
same_keys g levels r can = same_increasing (row_keys h r) (row_keys g r) (in_order_increasing (map (key_at h r.group) (filter (is_picked h r) (places h)))) (in_order_increasing (map (key_at g r.group) (filter (is_picked g r) (places g)))) down up
  where
    h : Public
    h = cells_of g levels

    down : (z : List ℕ) → IsIn z (row_keys h r) → IsIn z (row_keys g r)
    down z m =
        let a = IsIn-map (key_at h r.group) z (filter (is_picked h r) (places h)) (IsIn-in_order z (map (key_at h r.group) (filter (is_picked h r) (places h))) m) in
        let b = IsIn-filter (is_picked h r) a.0 (places h) a.1 in
        let l = cell_below g levels a.0 b.1 in
        let k = get_or (cell_keys g levels) a.0 [] in
        let c = cell_alike g levels r a.0 l in
        let first = is_first g levels k (key_in (cell_keys g levels) a.0 l) in
        in_order_has z (map (key_at g r.group) (filter (is_picked g r) (places g)))
        (subst (λ x. IsIn x (map (key_at g r.group) (filter (is_picked g r) (places g)))) (sym c.group ∙ a.2)
        (map_has (key_at g r.group) (first_place g levels k) (filter (is_picked g r) (places g)) (filter_has (is_picked g r) (first_place g levels k) (places g) (sym c.picked ∙ b.0) first.place)))

    up : (z : List ℕ) → IsIn z (row_keys g r) → IsIn z (row_keys h r)
    up z m =
        let a = IsIn-map (key_at g r.group) z (filter (is_picked g r) (places g)) (IsIn-in_order z (map (key_at g r.group) (filter (is_picked g r) (places g))) m) in
        let b = IsIn-filter (is_picked g r) a.0 (places g) a.1 in
        let k = key_at g levels a.0 in
        let at = position_of (cell_keys g levels) k (has_cell g levels a.0 b.1) in
        let below : at.0 < length (cell_keys g levels) = at.1 in
        let c = subst (λ x. AreAlike h g r at.0 (first_place g levels x)) at.2 (cell_alike g levels r at.0 below) in
        let d = place_alike g levels r a.0 can b.1 in
        let e = count_cells g levels in
        let there : IsIn at.0 (places h) = count_from_has at.0 0 (length h.shape.points) (omega arith) (omega (arith, below, e)) in
        in_order_has z (map (key_at h r.group) (filter (is_picked h r) (places h)))
        (subst (λ x. IsIn x (map (key_at h r.group) (filter (is_picked h r) (places h)))) (c.group ∙ sym d.group ∙ a.2)
        (map_has (key_at h r.group) at.0 (filter (is_picked h r) (places h)) (filter_has (is_picked h r) at.0 (places h) (c.picked ∙ sym d.picked ∙ b.0) there)))

-- the sum of a cell
abbrev pub cell_sum : Public → List ℤ → List ℕ → List ℕ → ℤ
cell_sum g vs levels key = total vs (covered_at g levels key)

read_sums : (f : List ℕ → ℤ) (ks : List (List ℕ)) (j : ℕ) → j < length ks → get_or (map f ks) j (pos 0) ≡ f (get_or ks j [])
read_sums f [] j l = absurd (omega (arith, l))
read_sums f (k ∷ ks) zero l = refl
read_sums f (k ∷ ks) (suc j) l = read_sums f ks j (omega (arith, l))

-- the cells of a row add to the places of the row
row_total : (g : Public) (levels : List ℕ) (r : Request) (vs : List ℤ) (z : List ℕ) → CanAnswer g levels r
    → total (map (cell_sum g vs levels) (cell_keys g levels)) (filter (in_row (cells_of g levels) r z) (places (cells_of g levels))) ≡ total vs (filter (in_row g r z) (places g))
row_total g levels r vs z can =
    total-gather sums (filter (in_row h r z) (places h))
    ∙ ap (λ n. gather (λ j. get_or sums j (pos 0)) (filter (in_row h r z) (count_from 0 n))) (count_cells g levels)
    ∙ at_positions (at_key (key_at g levels) v (places g)) (λ j. get_or sums j (pos 0)) T (in_row h r z) ks 0 tests sums_at
    ∙ partition (key_at g levels) v T (in_row g r z) (places g) ks (in_order_increasing (map (key_at g levels) (places g))) (λ i m. has_cell g levels i m) tells
    ∙ sym (total-gather vs (filter (in_row g r z) (places g)))
  where
    h : Public
    h = cells_of g levels

    ks : List (List ℕ)
    ks = cell_keys g levels

    sums : List ℤ
    sums = map (cell_sum g vs levels) (cell_keys g levels)

    v : ℕ → ℤ
    v i = get_or vs i (pos 0)

    T : List ℕ → Bool
    T key = in_row g r z (first_place g levels key)

    tests : (j : ℕ) → j < length ks → in_row h r z (0 + j) ≡ T (get_or ks j [])
    tests j l =
        let c = cell_alike g levels r j l in
        let zero_more : 0 + j ≡ j = omega arith in
        ap (in_row h r z) zero_more ∙ ap₂ (λ a b. a && same b z) c.picked c.group

    sums_at : (j : ℕ) → j < length ks → get_or sums (0 + j) (pos 0) ≡ at_key (key_at g levels) v (places g) (get_or ks j [])
    sums_at j l =
        let zero_more : 0 + j ≡ j = omega arith in
        ap (λ i. get_or sums i (pos 0)) zero_more ∙ read_sums (cell_sum g vs levels) ks j l ∙ total-gather vs (covered_at g levels (get_or ks j []))

    tells : (i : ℕ) → IsIn i (places g) → in_row g r z i ≡ T (key_at g levels i)
    tells i m = let d = place_alike g levels r i can m in ap₂ (λ a b. a && same b z) d.picked d.group

-- The rows of the cells with their sums are the rows of the request with theirs.
pub rows_from_cells : (g : Public) (levels : List ℕ) (r : Request) (vs : List ℤ) → CanAnswer g levels r
    → map (summed_row (map (cell_sum g vs levels) (cell_keys g levels))) (rows (cells_of g levels) r) ≡ map (summed_row vs) (rows g r)
rows_from_cells g levels r vs can =
    ap (λ zs. map (summed_row sums) (map (row_at (cells_of g levels) r) zs)) (same_keys g levels r can) ∙ each (row_keys g r)
  where
    sums : List ℤ
    sums = map (cell_sum g vs levels) (cell_keys g levels)

    each : (zs : List (List ℕ)) → map (summed_row sums) (map (row_at (cells_of g levels) r) zs) ≡ map (summed_row vs) (map (row_at g r) zs)
    each [] = refl
    each (z ∷ zs) = ap₂ (λ (s : ℤ) (l : List AnswerRow). record { key = z; sum = s } ∷ l) (row_total g levels r vs z can) (each zs)
