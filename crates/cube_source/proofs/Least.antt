-- The least pair of blocks is the first cutting pair.
use Rattle.std.specs.List.{fold}
use Rattle.std.proofs.Common.{◌≡◌, ℕ, ◌<◌, ◌≤◌, ◌⊎◌, inl, inr, Bool, true, false, cond, not, ◌&&◌, List, [], ◌∷◌, length, filter, find, Option, Some, None, refl, sym, ap, ap₂, ◌∙◌, subst, arith, ltb}
use Rattle.std.proofs.lemmas.Bool.{false≢true, true≢false, and_parts, and_from, ltb-true, not-true, not_from_false}
use Rattle.std.proofs.lemmas.Bool.Decides.{nat_tests}
use Rattle.cube_model.specs.declared.answer.Row.{Row}
use Rattle.cube_model.specs.declared.cell.Cell.{Cell}
use Rattle.cube_model.specs.Cubes.{Public, same, key_at, covers, places, IsIn}
use Rattle.cube_model.specs.Requests.{in_row, row_keys, row_at, rows}
use Rattle.cube_model.specs.Protection.{first, cutting_pairs}
use Rattle.cube_model.proofs.Leasts.{finds_least, first_cut}
use Rattle.cube_model.proofs.Members.{IsIn-map, find_none, same_eq, same_refl}
use Rattle.cube_model.proofs.Orders.{cut_is_cuts, rows_are_rows}
use Rattle.cube_model.proofs.Sources.{IsCutting, cutting_is, cut_at}
use Rattle.cube_source.specs.Blocks.{whole}
use Rattle.cube_source.specs.Pairs.{both, block_pair, lesser, least_pair}
use Rattle.cube_source.proofs.Cuts.{all_picked}

-- ---- the lesser of two

lesser_none : (a b : Option (ℕ × ℕ)) → lesser a b ≡ None → (a ≡ None) × (b ≡ None)
lesser_none None b e = (refl, e)
lesser_none (Some x) None e = absurd (cc)
lesser_none (Some x) (Some y) e = go (ltb y.0 x.0) e
  where
    go : (t : Bool) → cond t (Some y) (Some x) ≡ None → (Some x ≡ None) × (Some y ≡ None)
    go true q = absurd (cc)
    go false q = absurd (cc)

lesser_some : (a b : Option (ℕ × ℕ)) (e : ℕ × ℕ) → lesser a b ≡ Some e → (a ≡ Some e) ⊎ (b ≡ Some e)
lesser_some None b e h = inr h
lesser_some (Some x) None e h = inl h
lesser_some (Some x) (Some y) e h = go (ltb y.0 x.0) h
  where
    go : (t : Bool) → cond t (Some y) (Some x) ≡ Some e → (Some x ≡ Some e) ⊎ (Some y ≡ Some e)
    go true q = inr q
    go false q = inl q

some_same : (x e : ℕ × ℕ) → Some x ≡ Some e → x ≡ e
some_same x e h = cc

less_or_not : (x y : ℕ) → (ltb y x ≡ true → y < x) × (ltb y x ≡ false → x ≤ y)
less_or_not x y = (ltb-true y x, (λ t. grind (arith, nat_tests)))

lesser_left : (a b : Option (ℕ × ℕ)) (e f : ℕ × ℕ) → lesser a b ≡ Some e → a ≡ Some f → e.0 ≤ f.0
lesser_left None b e f h q = absurd (cc)
lesser_left (Some x) None e f h q = let p = ap (λ (z : ℕ × ℕ). z.0) (sym (some_same x e h) ∙ some_same x f q) in omega (arith, p)
lesser_left (Some x) (Some y) e f h q = go (ltb y.0 x.0) refl h
  where
    go : (t : Bool) → ltb y.0 x.0 ≡ t → cond t (Some y) (Some x) ≡ Some e → e.0 ≤ f.0
    go true t k = let l = (less_or_not x.0 y.0).0 t in let p = ap (λ (z : ℕ × ℕ). z.0) (some_same y e k) in let r = ap (λ (z : ℕ × ℕ). z.0) (some_same x f q) in omega (arith, l, p, r)
    go false t k = let p = ap (λ (z : ℕ × ℕ). z.0) (sym (some_same x e k) ∙ some_same x f q) in omega (arith, p)

lesser_right : (a b : Option (ℕ × ℕ)) (e f : ℕ × ℕ) → lesser a b ≡ Some e → b ≡ Some f → e.0 ≤ f.0
lesser_right None b e f h q = let p = ap (λ (z : ℕ × ℕ). z.0) (some_same e f (sym h ∙ q)) in omega (arith, p)
lesser_right (Some x) None e f h q = absurd (cc)
lesser_right (Some x) (Some y) e f h q = go (ltb y.0 x.0) refl h
  where
    go : (t : Bool) → ltb y.0 x.0 ≡ t → cond t (Some y) (Some x) ≡ Some e → e.0 ≤ f.0
    go true t k = let p = ap (λ (z : ℕ × ℕ). z.0) (sym (some_same y e k) ∙ some_same y f q) in omega (arith, p)
    go false t k = let l = (less_or_not x.0 y.0).1 t in let p = ap (λ (z : ℕ × ℕ). z.0) (some_same x e k) in let r = ap (λ (z : ℕ × ℕ). z.0) (some_same y f q) in omega (arith, l, p, r)

-- ---- the least of many

module _ (pair : Row → Option (ℕ × ℕ)) where
  abbrev least_from : Option (ℕ × ℕ) → List Row → Option (ℕ × ℕ)
  least_from start blocks = fold (λ least block. lesser least (pair block)) start blocks

  from_none : (start : Option (ℕ × ℕ)) (blocks : List Row) → least_from start blocks ≡ None → (start ≡ None) × ((row : Row) → IsIn row blocks → pair row ≡ None)
  from_none start [] e = (e, (λ row m. absurd m))
  from_none start (b ∷ bs) e =
      let r = from_none (lesser start (pair b)) bs e in
      let q = lesser_none start (pair b) r.0 in
      (q.0, every q.1 r.1)
    where
      every : pair b ≡ None → ((row : Row) → IsIn row bs → pair row ≡ None) → (row : Row) → IsIn row (b ∷ bs) → pair row ≡ None
      every p f row (inl k) = ap pair (sym k) ∙ p
      every p f row (inr m) = f row m

  from_some : (start : Option (ℕ × ℕ)) (blocks : List Row) (e : ℕ × ℕ) → least_from start blocks ≡ Some e → (start ≡ Some e) ⊎ ((row : Row) × (IsIn row blocks) × (pair row ≡ Some e))
  from_some start [] e h = inl h
  from_some start (b ∷ bs) e h = go (from_some (lesser start (pair b)) bs e h)
    where
      pick : (start ≡ Some e) ⊎ (pair b ≡ Some e) → (start ≡ Some e) ⊎ ((row : Row) × (IsIn row (b ∷ bs)) × (pair row ≡ Some e))
      pick (inl q) = inl q
      pick (inr q) = inr (b, inl refl, q)

      go : (lesser start (pair b) ≡ Some e) ⊎ ((row : Row) × (IsIn row bs) × (pair row ≡ Some e)) → (start ≡ Some e) ⊎ ((row : Row) × (IsIn row (b ∷ bs)) × (pair row ≡ Some e))
      go (inl q) = pick (lesser_some start (pair b) e q)
      go (inr r) = inr (r.0, inr r.1, r.2)

  from_start : (start : Option (ℕ × ℕ)) (blocks : List Row) (e f : ℕ × ℕ) → least_from start blocks ≡ Some e → start ≡ Some f → e.0 ≤ f.0
  from_start start [] e f h q = let p = ap (λ (z : ℕ × ℕ). z.0) (some_same e f (sym h ∙ q)) in omega (arith, p)
  from_start start (b ∷ bs) e f h q = go (lesser start (pair b)) refl (from_start (lesser start (pair b)) bs e)
    where
      go : (o : Option (ℕ × ℕ)) → lesser start (pair b) ≡ o → ((k : ℕ × ℕ) → least_from (lesser start (pair b)) bs ≡ Some e → lesser start (pair b) ≡ Some k → e.0 ≤ k.0) → e.0 ≤ f.0
      go None k again = let z = (lesser_none start (pair b) k).0 in absurd (none_some f (sym z ∙ q))
        where
          none_some : (x : ℕ × ℕ) → None ≡ Some x → ⊥
          none_some x w = cc
      go (Some x) k again = let l = again x h k in let m = lesser_left start (pair b) x f k q in omega (arith, l, m)

  from_blocks : (start : Option (ℕ × ℕ)) (blocks : List Row) (e f : ℕ × ℕ) (row : Row) → least_from start blocks ≡ Some e → IsIn row blocks → pair row ≡ Some f → e.0 ≤ f.0
  from_blocks start [] e f row h m q = absurd m
  from_blocks start (b ∷ bs) e f row h (inr m) q = from_blocks (lesser start (pair b)) bs e f row h m q
  from_blocks start (b ∷ bs) e f row h (inl k) q = go (lesser start (pair b)) refl (from_start (lesser start (pair b)) bs e)
    where
      own : pair b ≡ Some f
      own = ap pair k ∙ q

      go : (o : Option (ℕ × ℕ)) → lesser start (pair b) ≡ o → ((k : ℕ × ℕ) → least_from (lesser start (pair b)) bs ≡ Some e → lesser start (pair b) ≡ Some k → e.0 ≤ k.0) → e.0 ≤ f.0
      go None z again = let w = (lesser_none start (pair b) z).1 in absurd (none_some f (sym w ∙ own))
        where
          none_some : (x : ℕ × ℕ) → None ≡ Some x → ⊥
          none_some x w = cc
      go (Some x) z again = let l = again x h z in let n = lesser_right start (pair b) x f z own in omega (arith, l, n)

-- ---- one block

both_some : (a b : Option ℕ) (e : ℕ × ℕ) → both a b ≡ Some e → (a ≡ Some e.0) × (b ≡ Some e.1)
both_some None b e h = absurd (cc)
both_some (Some i) None e h = absurd (cc)
both_some (Some i) (Some j) e h = (ap (λ (z : ℕ × ℕ). Some z.0) (some_same (i, j) e h), ap (λ (z : ℕ × ℕ). Some z.1) (some_same (i, j) e h))

find_filter : (p q : ℕ → Bool) (xs : List ℕ) → find p (filter q xs) ≡ find (λ x. q x && p x) xs
find_filter p q [] = refl
find_filter p q (x ∷ xs) = go (q x) (find_filter p q xs)
  where
    go : (b : Bool) → find p (filter q xs) ≡ find (λ x. q x && p x) xs → find p (cond b (x ∷ filter q xs) (filter q xs)) ≡ cond (b && p x) (Some x) (find (λ x. q x && p x) xs)
    go true r = ap (cond (p x) (Some x)) r
    go false r = r

not_less : (k j : ℕ) → (j < k → ⊥) → k ≤ j
not_less k j d = grind arith

-- what is found first in a row is the least place of its key that passes
pub record IsFirstIn (g : Public) (c key : List ℕ) (p : ℕ → Bool) (k : ℕ) : Type 0 where
  pub below : k < length g.shape.points
  pub keyed : key_at g c k ≡ key
  pub passes : p k ≡ true
  pub least : (j : ℕ) → j < length g.shape.points → key_at g c j ≡ key → p j ≡ true → k ≤ j

found_in : (g : Public) (c key : List ℕ) (p : ℕ → Bool) (k : ℕ) → find p (row_at g (whole c) key).places ≡ Some k → IsFirstIn g c key p k
found_in g c key p k e =
    let a = finds_least (λ x. in_row g (whole c) key x && p x) 0 (length g.shape.points) k (sym (find_filter p (in_row g (whole c) key) (places g)) ∙ e) in
    let b = and_parts (in_row g (whole c) key k) (p k) a.passes in
    let below = a.below in
    record {
      below = omega (arith, below);
      keyed = same_eq (key_at g c k) key (sym (ap (λ (z : Bool). z && same (key_at g c k) key) (all_picked g c k)) ∙ b.0);
      passes = b.1;
      least = λ j l q r. not_less k j (λ m. true≢false (sym (and_from (in_row g (whole c) key j) (p j) (ap₂ (λ (z w : Bool). z && w) (all_picked g c j) (ap (λ (z : List ℕ). same z key) q ∙ same_refl key)) r) ∙ a.none_before j (omega arith) m));
    }

find_some : (p : ℕ → Bool) (x : ℕ) (xs : List ℕ) → IsIn x xs → p x ≡ true → (k : ℕ) × (find p xs ≡ Some k)
find_some p x xs m e = go (find p xs) refl
  where
    go : (o : Option ℕ) → find p xs ≡ o → (k : ℕ) × (find p xs ≡ Some k)
    go None q = absurd (false≢true (sym (find_none p x xs q m) ∙ e))
    go (Some k) q = (k, q)

pair_some : (g : Public) (t : Cell) (is : List ℕ) (i j : ℕ) → IsIn i is → covers g t i ≡ true → IsIn j is → covers g t j ≡ false → (e : ℕ × ℕ) × (block_pair g t is ≡ Some e)
pair_some g t is i j a b k d =
    let x = find_some (covers g t) i is a b in
    let y = find_some (λ j. not (covers g t j)) j is k (not_from_false (covers g t j) d) in
    ((x.0, y.0), ap₂ both x.1 y.1)

-- ---- the first cutting pair

-- a cutting pair stands in a block, which then has a pair
cut_block : (g : Public) (c : List ℕ) (t : Cell) (e : ℕ × ℕ) → IsCutting g c t e → (row : Row) × (IsIn row (rows g (whole c))) × (row.key ≡ key_at g c e.0) × ((f : ℕ × ℕ) × (block_pair g t row.places ≡ Some f))
cut_block g c t e k =
    let r = (rows_are_rows g (whole c)).complete e.0 k.first_below (all_picked g c e.0) in
    let p = ((rows_are_rows g (whole c)).exactly r.0 r.1 e.0).0 r.2 in
    let q = ((rows_are_rows g (whole c)).exactly r.0 r.1 e.1).1 (k.second_below, all_picked g c e.1, sym (same_eq (key_at g c e.0) (key_at g c e.1) k.joined) ∙ p.2) in
    (r.0, r.1, sym p.2, pair_some g t r.0.places e.0 e.1 r.2 k.covers_first q k.not_second)

pub least_is : (g : Public) (c : List ℕ) (t : Cell) → least_pair g t (rows g (whole c)) ≡ first (cutting_pairs g c t)
least_is g c t = go (least_pair g t (rows g (whole c))) refl
  where
    none_some : (x : ℕ × ℕ) → None ≡ Some x → ⊥
    none_some x w = cc

    go : (o : Option (ℕ × ℕ)) → least_pair g t (rows g (whole c)) ≡ o → least_pair g t (rows g (whole c)) ≡ first (cutting_pairs g c t)
    go None h = h ∙ none (cutting_pairs g c t) refl
      where
        none : (es : List (ℕ × ℕ)) → cutting_pairs g c t ≡ es → None ≡ first (cutting_pairs g c t)
        none [] q = sym (ap first q)
        none (e ∷ es) q =
            let k = cut_block g c t e (cutting_is g c t e (subst (IsIn e) (sym q) (inl refl))) in
            absurd (none_some k.3.0 (sym ((from_none (λ row. block_pair g t row.places) None (rows g (whole c)) h).1 k.0 k.1) ∙ k.3.1))
    go (Some e) h = one (from_some (λ row. block_pair g t row.places) None (rows g (whole c)) e h)
      where
        one : (None ≡ Some e) ⊎ ((row : Row) × (IsIn row (rows g (whole c))) × (block_pair g t row.places ≡ Some e)) → least_pair g t (rows g (whole c)) ≡ first (cutting_pairs g c t)
        one (inl q) = absurd (none_some e q)
        one (inr r) =
            let key = IsIn-map (row_at g (whole c)) r.0 (row_keys g (whole c)) r.1 in
            let parts = both_some (find (covers g t) r.0.places) (find (λ j. not (covers g t j)) r.0.places) e r.2 in
            let i = found_in g c key.0 (covers g t) e.0 (ap (λ (row : Row). find (covers g t) row.places) key.2 ∙ parts.0) in
            let j = found_in g c key.0 (λ j. not (covers g t j)) e.1 (ap (λ (row : Row). find (λ j. not (covers g t j)) row.places) key.2 ∙ parts.1) in
            let cuts = cut_at g c t ((cut_is_cuts g c t).1 (e.0, e.1, i.below, j.below, i.passes, not-true (covers g t e.1) j.passes, ap₂ same i.keyed j.keyed ∙ same_refl key.0)) in
            let law = first_cut g c t cuts.0 e.0 e.1 cuts.1 i.below j.below i.passes (not-true (covers g t e.1) j.passes) (ap₂ same i.keyed j.keyed ∙ same_refl key.0) in
            let other = cut_block g c t cuts.0 cuts.2 in
            let okey = IsIn-map (row_at g (whole c)) other.0 (row_keys g (whole c)) other.1 in
            let oparts = both_some (find (covers g t) other.0.places) (find (λ j. not (covers g t j)) other.0.places) other.3.0 other.3.1 in
            let oi = found_in g c okey.0 (covers g t) other.3.0.0 (ap (λ (row : Row). find (covers g t) row.places) okey.2 ∙ oparts.0) in
            let same_key : key_at g c cuts.0.0 ≡ okey.0 = sym other.2 ∙ sym (ap (λ (row : Row). row.key) okey.2) in
            let up : other.3.0.0 ≤ cuts.0.0 = oi.least cuts.0.0 cuts.2.first_below same_key cuts.2.covers_first in
            let low : e.0 ≤ other.3.0.0 = from_blocks (λ row. block_pair g t row.places) None (rows g (whole c)) e other.3.0 other.0 h other.1 other.3.1 in
            h ∙ ap Some (ends law up low (λ z. j.least cuts.0.1 cuts.2.second_below
            (sym (same_eq (key_at g c cuts.0.0) (key_at g c cuts.0.1) cuts.2.joined) ∙ ap (key_at g c) z ∙ i.keyed) (not_from_false (covers g t cuts.0.1) cuts.2.not_second))) ∙ sym cuts.1
          where
            pair_same : (x y : ℕ × ℕ) → x.0 ≡ y.0 → x.1 ≡ y.1 → x ≡ y
            pair_same x y p q = ap₂ (λ (u v : ℕ). (u, v)) p q

            ends : {f : ℕ × ℕ} {m : ℕ} → (f.0 < e.0) ⊎ ((f.0 ≡ e.0) × (f.1 ≤ e.1)) → m ≤ f.0 → e.0 ≤ m → (f.0 ≡ e.0 → e.1 ≤ f.1) → e ≡ f
            ends {f} {m} (inl l) a b n = absurd (omega (arith, l, a, b))
            ends {f} {m} (inr q) a b n = let l = n q.0 in let k = q.1 in pair_same e f (sym q.0) (omega (arith, l, k))
