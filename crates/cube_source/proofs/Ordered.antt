-- Keys in order, of which some are kept.
use Rattle.std.specs.List.{list_all, list_any}
use Rattle.std.proofs.Common.{◌≡◌, ℕ, ◌<◌, inl, inr, Bool, true, false, cond, ◌&&◌, List, [], ◌∷◌, map, filter, refl, sym, ap, ap₂, ◌∙◌, subst, arith, eqb, ltb, ⊎_elim}
use Rattle.std.proofs.lemmas.Bool.{false≢true, and_parts, and_from, or_cases, ltb-true}
use Rattle.cube_model.specs.Cubes.{same, before, in_order, IsIn, IsIncreasing}
use Rattle.cube_model.proofs.Members.{IsIn-filter, filter_has, IsIn-map, map_has, IsIn-in_order, same_eq, same_refl}
use Rattle.cube_model.proofs.Orders.{before_trans, in_order_has, in_order_increasing}
use Rattle.cube_model.proofs.Walks.{any_from, any_has}

pub not_before : (x : List ℕ) → before x x ≡ true → ⊥
not_before [] e = false≢true e
not_before (x ∷ xs) e = ⊎_elim
    (λ a. let l : x < x = ltb-true x x a in omega arith)
    (λ a. not_before xs (and_parts (eqb x x) (before xs xs) a).1)
    (or_cases (ltb x x) (eqb x x && before xs xs) e)

pub later : (x k : List ℕ) (xs : List (List ℕ)) → list_all (before x) xs ≡ true → IsIn k xs → before x k ≡ true
later x k [] e h = absurd h
later x k (y ∷ ys) e (inl q) = subst (λ z. before x z ≡ true) q (and_parts (before x y) (list_all (before x) ys) e).0
later x k (y ∷ ys) e (inr h) = later x k ys (and_parts (before x y) (list_all (before x) ys) e).1 h

-- two lists of keys in order with the same members are one
pub same_order : (xs ys : List (List ℕ)) → IsIncreasing xs → IsIncreasing ys → ((k : List ℕ) → IsIn k xs → IsIn k ys) → ((k : List ℕ) → IsIn k ys → IsIn k xs) → xs ≡ ys
same_order [] [] a b f h = refl
same_order [] (y ∷ ys) a b f h = absurd (h y (inl refl))
same_order (x ∷ xs) [] a b f h = absurd (f x (inl refl))
same_order (x ∷ xs) (y ∷ ys) a b f h = ap₂ (λ k ks. k ∷ ks) heads (same_order xs ys a.1 b.1 there back)
  where
    heads : x ≡ y
    heads = ⊎_elim (λ e. sym e)
        (λ m. ⊎_elim (λ e. e) (λ k. absurd (not_before x (before_trans x y x (later x y xs a.0 k) (later y x ys b.0 m)))) (h y (inl refl)))
        (f x (inl refl))

    there : (k : List ℕ) → IsIn k xs → IsIn k ys
    there k m = ⊎_elim (λ e. absurd (not_before x (subst (λ z. before x z ≡ true) (sym (heads ∙ e)) (later x k xs a.0 m)))) (λ n. n) (f k (inr m))

    back : (k : List ℕ) → IsIn k ys → IsIn k xs
    back k m = ⊎_elim (λ e. absurd (not_before y (subst (λ z. before y z ≡ true) (sym (sym heads ∙ e)) (later y k ys b.0 m)))) (λ n. n) (h k (inr m))

all_filter : (x : List ℕ) (q : List ℕ → Bool) (xs : List (List ℕ)) → list_all (before x) xs ≡ true → list_all (before x) (filter q xs) ≡ true
all_filter x q [] e = refl
all_filter x q (y ∷ ys) e = go (q y) (and_parts (before x y) (list_all (before x) ys) e) (all_filter x q ys (and_parts (before x y) (list_all (before x) ys) e).1)
  where
    go : (b : Bool) → (before x y ≡ true) × (list_all (before x) ys ≡ true) → list_all (before x) (filter q ys) ≡ true → list_all (before x) (cond b (y ∷ filter q ys) (filter q ys)) ≡ true
    go true p r = and_from (before x y) (list_all (before x) (filter q ys)) p.0 r
    go false p r = r

increasing_filter : (q : List ℕ → Bool) (xs : List (List ℕ)) → IsIncreasing xs → IsIncreasing (filter q xs)
increasing_filter q [] a = tt
increasing_filter q (x ∷ xs) a = go (q x) (increasing_filter q xs a.1)
  where
    go : (b : Bool) → IsIncreasing (filter q xs) → IsIncreasing (cond b (x ∷ filter q xs) (filter q xs))
    go true r = (all_filter x q xs a.0, r)
    go false r = r

-- one of the places that pass has the key
abbrev has_key : (ℕ → List ℕ) → (ℕ → Bool) → List ℕ → List ℕ → Bool
has_key f p xs k = list_any (λ i. p i && same (f i) k) xs

-- the keys of some places are those of all places that one of these has
pub kept_keys : (f : ℕ → List ℕ) (p : ℕ → Bool) (xs : List ℕ) → in_order (map f (filter p xs)) ≡ filter (λ k. list_any (λ i. p i && same (f i) k) xs) (in_order (map f xs))
kept_keys f p xs = same_order (in_order (map f (filter p xs))) (filter (has_key f p xs) (in_order (map f xs))) (in_order_increasing (map f (filter p xs))) (increasing_filter (has_key f p xs) (in_order (map f xs)) (in_order_increasing (map f xs))) there back
  where
    there : (k : List ℕ) → IsIn k (in_order (map f (filter p xs))) → IsIn k (filter (has_key f p xs) (in_order (map f xs)))
    there k h =
        let a = IsIn-map f k (filter p xs) (IsIn-in_order k (map f (filter p xs)) h) in
        let b = IsIn-filter p a.0 xs a.1 in
        filter_has (has_key f p xs) k (in_order (map f xs))
        (any_has (λ i. p i && same (f i) k) a.0 xs b.1 (and_from (p a.0) (same (f a.0) k) b.0 (ap (λ z. same z k) a.2 ∙ same_refl k)))
        (in_order_has k (map f xs) (subst (λ z. IsIn z (map f xs)) a.2 (map_has f a.0 xs b.1)))

    back : (k : List ℕ) → IsIn k (filter (has_key f p xs) (in_order (map f xs))) → IsIn k (in_order (map f (filter p xs)))
    back k h =
        let a = IsIn-filter (has_key f p xs) k (in_order (map f xs)) h in
        let b = any_from (λ i. p i && same (f i) k) xs a.0 in
        let e = and_parts (p b.0) (same (f b.0) k) b.2 in
        in_order_has k (map f (filter p xs)) (subst (λ z. IsIn z (map f (filter p xs))) (same_eq (f b.0) k e.1) (map_has f b.0 (filter p xs) (filter_has p b.0 xs e.0 b.1)))
