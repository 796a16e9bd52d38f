-- The laws on cuboids, keys and rows.
use Rattle.std.specs.List.{list_all}
use Rattle.std.proofs.Common.{◌≡◌, ℕ, ◌<◌, inl, inr, ◌↔◌, Bool, true, false, cond, not, ◌&&◌, List, [], ◌∷◌, length, map, filter, is_some, refl, sym, ap, ap₂, ◌∙◌, subst, arith, eqb, eqb-true, ltb, leb, ⊎_elim}
use Rattle.std.proofs.lemmas.Bool.{false≢true, and_parts, and_from, or_cases, or_left, or_right, ltb-true, lt-ltb, eq-eqb, leb-true, not_from_false}
use Rattle.std.proofs.lemmas.Bool.Decides.{nat_tests}
use Rattle.cube_model.specs.declared.cell.Cell.{Cell}
use Rattle.cube_model.specs.declared.request.Request.{Request}
use Rattle.cube_model.specs.Cubes.{Dimension, Public, up, same, before, with_key, in_order, ancestors, key_at, together, covers, places, point, is_finer, Each, IsIn, IsIncreasing, IsPoint, IsHierarchy}
use Rattle.cube_model.specs.Requests.{is_picked, in_row, row_keys, row_at}
use Rattle.cube_model.specs.Protection.{cutting_pairs, first, is_cut}
use Rattle.cube_model.specs.Meanings.{MeetIsGreatest, CutIsCuts, CoarserCuts, InOrder, keys_of, IsPickedIn, RowsAreRows}
use Rattle.cube_model.proofs.Finer.{up_later, meet_left, meet_right, meet_greatest}
use Rattle.cube_model.proofs.Members.{IsIn-filter, filter_has, IsIn-map, map_has, flat_map_has, IsIn-in_order, same_eq, same_refl, count_from_has}
use Rattle.cube_model.proofs.Sources.{place_below, cut_at, Each-get_or}

pub meet_is_greatest : MeetIsGreatest
meet_is_greatest a b e = record { below_first = meet_left a b e; below_second = meet_right a b e; greatest = λ d p q. meet_greatest a b d p q }

pub place_of : (g : Public) (i : ℕ) → i < length g.shape.points → IsIn i (places g)
place_of g i l = count_from_has i 0 (length g.shape.points) (omega arith) (omega arith)

pub is_some_first : {X : Type 0} (x : X) (xs : List X) → IsIn x xs → is_some (first xs) ≡ true
is_some_first x [] h = absurd h
is_some_first x (y ∷ ys) h = refl

pub cut_from : (g : Public) (c : List ℕ) (t : Cell) (i j : ℕ) → i < length g.shape.points → j < length g.shape.points → covers g t i ≡ true → covers g t j ≡ false → together g c i j ≡ true → is_cut g c t ≡ true
unfolding cutting_pairs
cut_from g c t i j a b p q r = is_some_first (i, j) (cutting_pairs g c t)
    (flat_map_has (λ i. map (λ j. (i, j)) (filter (λ j. not (covers g t j) && together g c i j) (places g))) i (i, j) (filter (covers g t) (places g))
    (filter_has (covers g t) i (places g) p (place_of g i a))
    (map_has (λ (k : ℕ). (i, k)) j (filter (λ j. not (covers g t j) && together g c i j) (places g))
    (filter_has (λ j. not (covers g t j) && together g c i j) j (places g) (and_from (not (covers g t j)) (together g c i j) (not_from_false (covers g t j) q) r) (place_of g j b))))

pub cut_is_cuts : CutIsCuts
cut_is_cuts g c t = (
  (λ h. let e = cut_at g c t h in (e.0.0, e.0.1, e.2.first_below, e.2.second_below, e.2.covers_first, e.2.not_second, e.2.joined)),
  (λ h. cut_from g c t h.0 h.1 h.2 h.3 h.4 h.5 h.6),
)

-- what a cuboid has together, each coarser one has
pub coarser_together : (ds : List Dimension) (c k x y : List ℕ) → Each IsHierarchy ds → IsPoint ds x → IsPoint ds y → is_finer c k ≡ true → same (ancestors ds c x) (ancestors ds c y) ≡ true → ancestors ds k x ≡ ancestors ds k y
coarser_together [] c k x y hs a b f s = refl
coarser_together (d ∷ ds) [] [] x y hs a b f s = refl
coarser_together (d ∷ ds) [] (m ∷ ms) x y hs a b f s = absurd (false≢true f)
coarser_together (d ∷ ds) (l ∷ ls) [] x y hs a b f s = refl
coarser_together (d ∷ ds) (l ∷ ls) (m ∷ ms) [] y hs a b f s = absurd a
coarser_together (d ∷ ds) (l ∷ ls) (m ∷ ms) (x ∷ xs) [] hs a b f s = absurd b
coarser_together (d ∷ ds) (l ∷ ls) (m ∷ ms) (x ∷ xs) (y ∷ ys) hs a b f s =
    let f2 = and_parts (leb l m) (is_finer ls ms) f in
    let s2 = and_parts (eqb (up d l x) (up d l y)) (same (ancestors ds ls xs) (ancestors ds ls ys)) s in
    ap₂ (λ u us. u ∷ us) (up_later d l m x y hs.0 a.0 b.0 (leb-true l m f2.0) (eqb-true (up d l x) (up d l y) s2.0)) (coarser_together ds ls ms xs ys hs.1 a.1 b.1 f2.1 s2.1)

pub coarser_cuts : CoarserCuts
unfolding key_at
coarser_cuts w c d t ok f h =
    let e = cut_at w.shown c t h in
    cut_from w.shown d t e.0.0 e.0.1 e.2.first_below e.2.second_below e.2.covers_first e.2.not_second
    (ap (λ k. same (ancestors w.shown.dimensions d (point w.shown e.0.0)) k) (sym (coarser_together w.shown.dimensions c d (point w.shown e.0.0) (point w.shown e.0.1) ok.hierarchies
    (Each-get_or (IsPoint w.shown.dimensions) w.shown.shape.points e.0.0 [] ok.points e.2.first_below)
    (Each-get_or (IsPoint w.shown.dimensions) w.shown.shape.points e.0.1 [] ok.points e.2.second_below) f e.2.joined))
    ∙ same_refl (ancestors w.shown.dimensions d (point w.shown e.0.0)))

-- the order of keys
pub before_trans : (x y z : List ℕ) → before x y ≡ true → before y z ≡ true → before x z ≡ true
before_trans [] [] z p q = q
before_trans [] (b ∷ y) [] p q = absurd (false≢true q)
before_trans [] (b ∷ y) (c ∷ z) p q = refl
before_trans (a ∷ x) [] z p q = absurd (false≢true p)
before_trans (a ∷ x) (b ∷ y) [] p q = absurd (false≢true q)
before_trans (a ∷ x) (b ∷ y) (c ∷ z) p q = ⊎_elim
    (λ ab. let l : a < b = ltb-true a b ab in ⊎_elim
    (λ bc. let k : b < c = ltb-true b c bc in or_left (ltb a c) _ (lt-ltb a c (omega arith)))
    (λ bc. let k : b ≡ c = eqb-true b c (and_parts (eqb b c) (before y z) bc).0 in or_left (ltb a c) _ (lt-ltb a c (omega arith)))
    (or_cases (ltb b c) (eqb b c && before y z) q))
    (λ ab. let l : a ≡ b = eqb-true a b (and_parts (eqb a b) (before x y) ab).0 in ⊎_elim
    (λ bc. let k : b < c = ltb-true b c bc in or_left (ltb a c) _ (lt-ltb a c (omega arith)))
    (λ bc. let k : b ≡ c = eqb-true b c (and_parts (eqb b c) (before y z) bc).0 in or_right (ltb a c) (eqb a c && before x z) (and_from (eqb a c) (before x z) (eq-eqb a c (l ∙ k)) (before_trans x y z (and_parts (eqb a b) (before x y) ab).1 (and_parts (eqb b c) (before y z) bc).1)))
    (or_cases (ltb b c) (eqb b c && before y z) q))
    (or_cases (ltb a b) (eqb a b && before x y) p)

-- two keys are equal, or one comes before the other
pub before_total : (x y : List ℕ) → same x y ≡ false → before x y ≡ false → before y x ≡ true
before_total [] [] p q = absurd (false≢true (sym p))
before_total [] (b ∷ y) p q = absurd (false≢true (sym q))
before_total (a ∷ x) [] p q = refl
before_total (a ∷ x) (b ∷ y) p q = grind (arith, nat_tests, before_total x y)

pub all_later : (x y : List ℕ) (ks : List (List ℕ)) → before x y ≡ true → list_all (before y) ks ≡ true → list_all (before x) ks ≡ true
all_later x y [] p q = refl
all_later x y (k ∷ ks) p q = let r = and_parts (before y k) (list_all (before y) ks) q in and_from (before x k) (list_all (before x) ks) (before_trans x y k p r.0) (all_later x y ks p r.1)

pub all_with_key : (x k : List ℕ) (ks : List (List ℕ)) → before x k ≡ true → list_all (before x) ks ≡ true → list_all (before x) (with_key k ks) ≡ true
all_with_key x k [] p q = and_from (before x k) true p refl
all_with_key x k (a ∷ ks) p q = go (same k a) (before k a) (all_with_key x k ks p (and_parts (before x a) (list_all (before x) ks) q).1)
  where
    go : (s b : Bool) → list_all (before x) (with_key k ks) ≡ true → list_all (before x) (cond s (a ∷ ks) (cond b (k ∷ a ∷ ks) (a ∷ with_key k ks))) ≡ true
    go true b r = q
    go false true r = and_from (before x k) (list_all (before x) (a ∷ ks)) p q
    go false false r = and_from (before x a) (list_all (before x) (with_key k ks)) (and_parts (before x a) (list_all (before x) ks) q).0 r

pub increasing_with_key : (k : List ℕ) (ks : List (List ℕ)) → IsIncreasing ks → IsIncreasing (with_key k ks)
increasing_with_key k [] i = (refl, tt)
increasing_with_key k (a ∷ ks) i = go (same k a) (before k a) refl refl (increasing_with_key k ks i.1)
  where
    go : (s b : Bool) → same k a ≡ s → before k a ≡ b → IsIncreasing (with_key k ks) → IsIncreasing (cond s (a ∷ ks) (cond b (k ∷ a ∷ ks) (a ∷ with_key k ks)))
    go true b p q r = i
    go false true p q r = (and_from (before k a) (list_all (before k) ks) q (all_later k a ks q i.0), i)
    go false false p q r = (all_with_key a k ks (before_total k a p q) i.0, r)

pub with_key_has : (x k : List ℕ) (ks : List (List ℕ)) → IsIn x (k ∷ ks) → IsIn x (with_key k ks)
with_key_has x k [] h = h
with_key_has x k (a ∷ ks) h = go (same k a) (before k a) refl h (λ z. with_key_has x k ks z)
  where
    go : (s b : Bool) → same k a ≡ s → IsIn x (k ∷ a ∷ ks) → (IsIn x (k ∷ ks) → IsIn x (with_key k ks)) → IsIn x (cond s (a ∷ ks) (cond b (k ∷ a ∷ ks) (a ∷ with_key k ks)))
    go true b p (inl e) again = inl (sym (same_eq k a p) ∙ e)
    go true b p (inr z) again = z
    go false true p z again = z
    go false false p (inl e) again = inr (again (inl e))
    go false false p (inr (inl e)) again = inl e
    go false false p (inr (inr z)) again = inr (again (inr z))

pub in_order_has : (x : List ℕ) (ks : List (List ℕ)) → IsIn x ks → IsIn x (in_order ks)
in_order_has x [] h = h
in_order_has x (k ∷ ks) (inl e) = with_key_has x k (in_order ks) (inl e)
in_order_has x (k ∷ ks) (inr z) = with_key_has x k (in_order ks) (inr (in_order_has x ks z))

pub in_order_increasing : (ks : List (List ℕ)) → IsIncreasing (in_order ks)
in_order_increasing [] = tt
in_order_increasing (k ∷ ks) = increasing_with_key k (in_order ks) (in_order_increasing ks)

pub in_order_law : InOrder
in_order_law ks = (in_order_increasing ks, (λ k. ((λ h. IsIn-in_order k ks h), (λ h. in_order_has k ks h))))

pub keys_of-map : (g : Public) (r : Request) (ks : List (List ℕ)) → keys_of (map (row_at g r) ks) ≡ ks
keys_of-map g r [] = refl
keys_of-map g r (k ∷ ks) = ap (λ x. k ∷ x) (keys_of-map g r ks)

pub rows_are_rows : RowsAreRows
rows_are_rows g r = record {
  increasing = subst IsIncreasing (sym (keys_of-map g r (row_keys g r))) (in_order_increasing (map (key_at g r.group) (filter (is_picked g r) (places g))));
  exactly = λ row h i. (let a = IsIn-map (row_at g r) row (row_keys g r) h in subst (λ x. IsIn i x.places ↔ IsPickedIn g r x.key i) a.2 (in_row_law a.0 i));
  complete = λ i l p. (
      let k = in_order_has (key_at g r.group i) (map (key_at g r.group) (filter (is_picked g r) (places g))) (map_has (key_at g r.group) i (filter (is_picked g r) (places g)) (filter_has (is_picked g r) i (places g) p (place_of g i l))) in
      (row_at g r (key_at g r.group i), map_has (row_at g r) (key_at g r.group i) (row_keys g r) k, (in_row_law (key_at g r.group i) i).1 (l, p, refl)));
  nonempty = λ row h. (
      let a = IsIn-map (row_at g r) row (row_keys g r) h in
      let b = IsIn-map (key_at g r.group) a.0 (filter (is_picked g r) (places g)) (IsIn-in_order a.0 (map (key_at g r.group) (filter (is_picked g r) (places g))) a.1) in
      let c = IsIn-filter (is_picked g r) b.0 (places g) b.1 in
      (b.0, subst (λ x. IsIn b.0 x.places) a.2 ((in_row_law a.0 b.0).1 (place_below g b.0 c.1, c.0, b.2))));
}
  where
    in_row_law : (key : List ℕ) (i : ℕ) → IsIn i (filter (in_row g r key) (places g)) ↔ IsPickedIn g r key i
    in_row_law key i = (
      (λ h. let a = IsIn-filter (in_row g r key) i (places g) h in let b = and_parts (is_picked g r i) (same (key_at g r.group i) key) a.0 in (place_below g i a.1, b.0, same_eq (key_at g r.group i) key b.1)),
      (λ h. filter_has (in_row g r key) i (places g) (and_from (is_picked g r i) (same (key_at g r.group i) key) h.1 (ap (λ k. same k key) h.2 ∙ same_refl key)) (place_of g i h.0)),
    )
