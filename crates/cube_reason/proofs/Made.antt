-- Cells that make up a protected cell, and lists of cells.
use Rattle.std.specs.List.{list_all, list_any, zip}
use Rattle.std.proofs.Common.{◌≡◌, ℕ, ◌<◌, inl, inr, Bool, true, false, cond, ◌&&◌, List, [], ◌∷◌, length, map, filter, is_some, refl, sym, ap, ap₂, ◌∙◌, subst, arith}
use Rattle.std.proofs.lemmas.Bool.{false≢true, and_parts, and_from}
use Rattle.cube_model.specs.declared.answer.Row.{Row}
use Rattle.cube_model.specs.declared.cell.Cell.{Cell}
use Rattle.cube_model.specs.declared.policy.Policy.{Policy}
use Rattle.cube_model.specs.Cores.{Core, shown}
use Rattle.cube_model.specs.Cubes.{Public, same, before, in_order, key_at, covers, covered, together, places, IsIn, IsIncreasing}
use Rattle.cube_model.specs.Protection.{protected, same_cell, first, is_cut}
use Rattle.cube_model.specs.Requests.{rows, row_at}
use Rattle.cube_model.specs.Reasons.{agree, are_rising, is_block, are_blocks, blocks_of}
use Rattle.cube_model.proofs.Alike.{both_ways}
use Rattle.cube_model.proofs.Boxes.{same_increasing}
use Rattle.cube_model.proofs.Members.{IsIn-filter, filter_has, IsIn-map, map_has, IsIn-in_order, count_from_has, same_eq, same_refl}
use Rattle.cube_model.proofs.Objects.{same_cell_eq}
use Rattle.cube_model.proofs.Orders.{cut_is_cuts, in_order_has, in_order_increasing}
use Rattle.cube_model.proofs.Parities.{all_at}
use Rattle.cube_model.proofs.Reasoning.{blocks_are}
use Rattle.cube_model.proofs.Walks.{any_from, any_has}
use Rattle.cube_reason.specs.Made.{same_cells}
use Rattle.cube_source.specs.Blocks.{bare, row_cell, whole}
use Rattle.cube_source.proofs.Cuts.{any_filter, row_covers, keys_whole}
use Rattle.cube_source.proofs.Ordered.{kept_keys}

-- ---- lists of cells

pub cells_even : (a b : List Cell) → length a ≡ length b → list_all (λ p. same_cell p.0 p.1) (zip a b) ≡ same_cells a b
cells_even [] [] e = refl
cells_even [] (y ∷ ys) e = absurd (omega (arith, e))
cells_even (x ∷ xs) [] e = absurd (omega (arith, e))
cells_even (x ∷ xs) (y ∷ ys) e = ap (λ (t : Bool). same_cell x y && t) (cells_even xs ys (omega (arith, e)))

pub cells_uneven : (a b : List Cell) → (length a ≡ length b → ⊥) → false ≡ same_cells a b
cells_uneven [] [] e = absurd (e refl)
cells_uneven [] (y ∷ ys) e = refl
cells_uneven (x ∷ xs) [] e = refl
cells_uneven (x ∷ xs) (y ∷ ys) e = by (same_cell x y) (cells_uneven xs ys (λ f. e (omega (arith, f))))
  where
    by : (t : Bool) → false ≡ same_cells xs ys → false ≡ (t && same_cells xs ys)
    by true f = f
    by false f = refl

same_cells_eq : (a b : List Cell) → same_cells a b ≡ true → a ≡ b
same_cells_eq [] [] e = refl
same_cells_eq [] (y ∷ ys) e = absurd (false≢true e)
same_cells_eq (x ∷ xs) [] e = absurd (false≢true e)
same_cells_eq (x ∷ xs) (y ∷ ys) e = let p = and_parts (same_cell x y) (same_cells xs ys) e in ap₂ (λ t ts. t ∷ ts) (same_cell_eq x y p.0) (same_cells_eq xs ys p.1)

same_cells_refl : (a : List Cell) → same_cells a a ≡ true
same_cells_refl [] = refl
same_cells_refl (x ∷ xs) = and_from (same_cell x x) (same_cells xs xs) (and_from (same x.levels x.levels) (same x.key x.key) (same_refl x.levels) (same_refl x.key)) (same_cells_refl xs)

-- ---- the blocks of a cell

block : List ℕ → List ℕ → Cell
block c key = record { levels = c; key = key }

filter_made : (make : List ℕ → Row) (c : List ℕ) (test : Row → Bool) (keep : List ℕ → Bool) (keys : List (List ℕ)) → ((k : List ℕ) → (make k).key ≡ k) → ((k : List ℕ) → test (make k) ≡ keep k) → map (row_cell c) (filter test (map make keys)) ≡ map (block c) (filter keep keys)
unfolding block
filter_made make c test keep [] own e = refl
filter_made make c test keep (k ∷ ks) own e = go (test (make k)) (keep k) (e k) (filter_made make c test keep ks own e)
  where
    go : (a b : Bool) → a ≡ b → map (row_cell c) (filter test (map make ks)) ≡ map (block c) (filter keep ks) → map (row_cell c) (cond a (make k ∷ filter test (map make ks)) (filter test (map make ks))) ≡ map (block c) (cond b (k ∷ filter keep ks) (filter keep ks))
    go true true q r = ap₂ (λ t ts. t ∷ ts) (ap (block c) (own k)) r
    go false false q r = r
    go true false q r = absurd (false≢true (sym q))
    go false true q r = absurd (false≢true q)

pub blocks_found : (g : Public) (c : List ℕ) (t : Cell) (found : List Row) → found ≡ rows g (whole c) → map (row_cell c) (filter (λ row. list_any (covers g t) row.places) found) ≡ blocks_of g c t
unfolding block
blocks_found g c t found is =
    ap (λ rs. map (row_cell c) (filter (λ row. list_any (covers g t) row.places) rs)) (is ∙ ap (map (row_at g (whole c))) (keys_whole g c))
    ∙ filter_made (row_at g (whole c)) c (λ row. list_any (covers g t) row.places) (λ k. list_any (λ i. covers g t i && same (key_at g c i) k) (places g)) (in_order (map (key_at g c) (places g))) (λ k. refl)
    (λ k. ap (list_any (covers g t)) (row_covers g c k) ∙ any_filter (covers g t) (covers g (block c k)) (places g))
    ∙ ap (map (block c)) (sym (kept_keys (key_at g c) (covers g t) (places g)))

-- ---- what makes up a protected cell

pub false_from : (b : Bool) → (b ≡ true → ⊥) → false ≡ b
false_from true never = absurd (never refl)
false_from false never = refl

agree_same : (a b : Bool) → agree a b ≡ true → a ≡ b
agree_same true b e = sym e
agree_same false true e = absurd (false≢true e)
agree_same false false e = refl

rising_to : (ks : List (List ℕ)) → are_rising ks ≡ true → IsIncreasing ks
rising_to [] e = tt
rising_to (k ∷ ks) e = let p = and_parts (list_all (before k) ks) (are_rising ks) e in (p.0, rising_to ks p.1)

first_in : {X : Type 0} (xs : List X) → is_some (first xs) ≡ true → (x : X) × IsIn x xs
first_in [] e = absurd (false≢true e)
first_in (x ∷ xs) e = (x, inl refl)

module _ (g : Public) (m : ℕ) (c : List ℕ) (t : Cell) (blocks : List Cell) where
  -- what is said of the cells, part by part
  pub record Parts : Type 0 where
    pub protected_is : list_any (same_cell t) (protected g m) ≡ true
    pub of_c : list_all (is_block g c) blocks ≡ true
    pub rising : are_rising (map (λ b. b.key) blocks) ≡ true
    pub exact : list_all (λ i. agree (covers g t i) (list_any (λ b. covers g b i) blocks)) (places g) ≡ true

  pub parts : are_blocks g m c t blocks ≡ true → Parts
  parts e =
      let p = and_parts (list_any (same_cell t) (protected g m) && list_all (is_block g c) blocks && are_rising (map (λ b. b.key) blocks)) (list_all (λ i. agree (covers g t i) (list_any (λ b. covers g b i) blocks)) (places g)) e in
      let q = and_parts (list_any (same_cell t) (protected g m) && list_all (is_block g c) blocks) (are_rising (map (λ b. b.key) blocks)) p.0 in
      let s = and_parts (list_any (same_cell t) (protected g m)) (list_all (is_block g c) blocks) q.0 in
      record { protected_is = s.0; of_c = s.1; rising = q.1; exact = p.1 }

  pub unprotected_make : list_any (same_cell t) (protected g m) ≡ false → false ≡ are_blocks g m c t blocks
  unprotected_make none = false_from (are_blocks g m c t blocks) (λ e. false≢true (sym none ∙ (parts e).protected_is))

  at_place : Parts → (i : ℕ) → IsIn i (places g) → covers g t i ≡ list_any (λ b. covers g b i) blocks
  at_place p i k = agree_same (covers g t i) (list_any (λ b. covers g b i) blocks) (all_at (λ i. agree (covers g t i) (list_any (λ b. covers g b i) blocks)) i (places g) p.exact k)

  levels_of : Parts → (b : Cell) → IsIn b blocks → b.levels ≡ c
  levels_of p b k = same_eq b.levels c (and_parts (same b.levels c) (is_some (first (covered g b))) (all_at (is_block g c) b blocks p.of_c k)).0

  pub cut_makes_none : is_cut g c t ≡ true → false ≡ are_blocks g m c t blocks
  cut_makes_none cut = false_from (are_blocks g m c t blocks) (λ e. let k = (cut_is_cuts g c t).0 cut in clash (parts e) k.0 k.1 k.2 k.3 k.4 k.5 k.6)
    where
      clash : Parts → (i j : ℕ) → i < length g.shape.points → j < length g.shape.points → covers g t i ≡ true → covers g t j ≡ false → together g c i j ≡ true → ⊥
      clash p i j a b s q w =
          let x = any_from (λ x. covers g x i) blocks (sym (at_place p i (count_from_has i 0 (length g.shape.points) (omega arith) (omega arith))) ∙ s) in
          let levels : x.0.levels ≡ c = levels_of p x.0 x.1 in
          let moved : key_at g x.0.levels j ≡ key_at g x.0.levels i = ap (λ l. key_at g l j) levels ∙ sym (same_eq (key_at g c i) (key_at g c j) w) ∙ ap (λ l. key_at g l i) (sym levels) in
          false≢true (sym q ∙ at_place p j (count_from_has j 0 (length g.shape.points) (omega arith) (omega arith)) ∙ any_has (λ x. covers g x j) x.0 blocks x.1 (ap (λ k. same k x.0.key) moved ∙ x.2))

  keys : List (List ℕ)
  keys = map (λ b. b.key) blocks

  blocks_by_keys : (bs : List Cell) → ((b : Cell) → IsIn b bs → b.levels ≡ c) → bs ≡ map (block c) (map (λ b. b.key) bs)
  unfolding block
  blocks_by_keys [] e = refl
  blocks_by_keys (b ∷ bs) e = ap₂ (λ t ts. t ∷ ts) (ap (λ l. block l b.key) (e b (inl refl))) (blocks_by_keys bs (λ x k. e x (inr k)))

  own_keys : Parts → keys ≡ in_order (map (key_at g c) (covered g t))
  unfolding keys
  own_keys p = same_increasing keys (in_order (map (key_at g c) (covered g t))) (rising_to keys p.rising) (in_order_increasing (map (key_at g c) (covered g t))) there back
    where
      there : (k : List ℕ) → IsIn k keys → IsIn k (in_order (map (key_at g c) (covered g t)))
      there k z =
          let b = IsIn-map (λ (b : Cell). b.key) k blocks z in
          let levels = levels_of p b.0 b.1 in
          let i = first_in (covered g b.0) (and_parts (same b.0.levels c) (is_some (first (covered g b.0))) (all_at (is_block g c) b.0 blocks p.of_c b.1)).1 in
          let q = IsIn-filter (covers g b.0) i.0 (places g) i.1 in
          let inside : covers g t i.0 ≡ true = at_place p i.0 q.1 ∙ any_has (λ x. covers g x i.0) b.0 blocks b.1 q.0 in
          let key : key_at g c i.0 ≡ k = ap (λ l. key_at g l i.0) (sym levels) ∙ same_eq (key_at g b.0.levels i.0) b.0.key q.0 ∙ b.2 in
          subst (λ x. IsIn x (in_order (map (key_at g c) (covered g t)))) key (in_order_has (key_at g c i.0) (map (key_at g c) (covered g t)) (map_has (key_at g c) i.0 (covered g t) (filter_has (covers g t) i.0 (places g) inside q.1)))

      back : (k : List ℕ) → IsIn k (in_order (map (key_at g c) (covered g t))) → IsIn k keys
      back k z =
          let i = IsIn-map (key_at g c) k (covered g t) (IsIn-in_order k (map (key_at g c) (covered g t)) z) in
          let q = IsIn-filter (covers g t) i.0 (places g) i.1 in
          let b = any_from (λ x. covers g x i.0) blocks (sym (at_place p i.0 q.1) ∙ q.0) in
          let key : b.0.key ≡ k = sym (same_eq (key_at g b.0.levels i.0) b.0.key b.2) ∙ ap (λ l. key_at g l i.0) (levels_of p b.0 b.1) ∙ i.2 in
          subst (λ x. IsIn x keys) key (map_has (λ (b : Cell). b.key) b.0 blocks b.1)

  pub own_blocks : Parts → blocks ≡ blocks_of g c t
  unfolding keys block
  own_blocks p = blocks_by_keys blocks (levels_of p) ∙ ap (map (block c)) (own_keys p)

  pub uncut_makes : list_any (same_cell t) (protected g m) ≡ true → is_cut g c t ≡ false → same_cells (blocks_of g c t) blocks ≡ are_blocks g m c t blocks
  uncut_makes held uncut = both_ways (same_cells (blocks_of g c t) blocks) (are_blocks g m c t blocks)
      (λ e. subst (λ bs. are_blocks g m c t bs ≡ true) (same_cells_eq (blocks_of g c t) blocks e) (blocks_are g m c t (let a = any_from (same_cell t) (protected g m) held in subst (λ s. IsIn s (protected g m)) (sym (same_cell_eq t a.0 a.2)) a.1) uncut))
      (λ e. ap (same_cells (blocks_of g c t)) (own_blocks (parts e)) ∙ same_cells_refl (blocks_of g c t))

-- no policy is looked at
pub blocks_bare : (c : Core) (p : Policy) (ls : List ℕ) (t : Cell) → blocks_of (bare c) ls t ≡ blocks_of (shown c p) ls t
unfolding key_at
blocks_bare c p ls t = refl
