-- Cells that stand once.
use Rattle.std.specs.List.{list_any, flat_map}
use Rattle.std.proofs.Common.{◌≡◌, ℕ, zero, suc, ◌≤◌, inl, inr, Bool, true, false, cond, not, ◌&&◌, ◌||◌, List, [], ◌∷◌, ◌++◌, map, filter, refl, sym, ap, ap₂, ◌∙◌, subst, arith, ⊎_elim}
use Rattle.cube_model.specs.declared.cell.Cell.{Cell}
use Rattle.cube_model.specs.declared.policy.Object.{Object}
use Rattle.cube_model.specs.Cubes.{Public, in_order, key_at, places, cuboids_below, count_from, IsIn, IsIncreasing}
use Rattle.cube_model.specs.Protection.{guards, under, same_cell, each_once}
use Rattle.cube_model.proofs.Members.{tested, IsIn-map, IsIn-append, IsIn-flat_map, IsIn-count_from}
use Rattle.cube_model.proofs.Objects.{same_cell_eq}
use Rattle.cube_model.proofs.Orders.{in_order_increasing}
use Rattle.cube_model.proofs.Walks.{same_truth}
use Rattle.cube_source.proofs.Among.{same_itself}
use Rattle.cube_source.proofs.Fewer.{cell}
use Rattle.cube_source.proofs.Ordered.{not_before, later}

-- ---- lists without a repeated element

abbrev pub AreApart : {X : Type 0} → List X → Type 0
AreApart [] = Unit {0}
AreApart (x ∷ xs) = (IsIn x xs → ⊥) × AreApart xs

apart_append : {X : Type 0} (xs ys : List X) → AreApart xs → AreApart ys → ((x : X) → IsIn x xs → IsIn x ys → ⊥) → AreApart (xs ++ ys)
apart_append [] ys a b d = b
apart_append (x ∷ xs) ys a b d = ((λ m. ⊎_elim (λ k. a.0 k) (λ k. d x (inl refl) k) (IsIn-append x xs ys m)), apart_append xs ys a.1 b (λ y k l. d y (inr k) l))

apart_map : {X Y : Type 0} (f : X → Y) (back : Y → X) (xs : List X) → ((x : X) → back (f x) ≡ x) → AreApart xs → AreApart (map f xs)
apart_map f back [] h a = tt
apart_map f back (x ∷ xs) h a =
    ((λ m. let r = IsIn-map f (f x) xs m in a.0 (subst (λ y. IsIn y xs) (sym (h r.0) ∙ ap back r.2 ∙ h x) r.1)), apart_map f back xs h a.1)

-- lists that tell from which element they come
apart_flat : {X Y : Type 0} (f : X → List Y) (back : Y → X) (xs : List X) → ((x : X) → AreApart (f x)) → ((x : X) (y : Y) → IsIn y (f x) → back y ≡ x) → AreApart xs → AreApart (flat_map f xs)
apart_flat f back [] each own a = tt
apart_flat f back (x ∷ xs) each own a = apart_append (f x) (flat_map f xs) (each x) (apart_flat f back xs each own a.1)
    (λ y k l. let r = IsIn-flat_map f y xs l in a.0 (subst (λ z. IsIn z xs) (sym (own r.0 y r.2) ∙ own x y k) r.1))

apart_count : (s n : ℕ) → AreApart (count_from s n)
apart_count s zero = tt
apart_count s (suc n) = ((λ m. let l : suc s ≤ s = (IsIn-count_from s (suc s) n m).0 in absurd (omega (arith, l))), apart_count (suc s) n)

first_level : List ℕ → ℕ
first_level [] = 0
first_level (l ∷ ls) = l

other_levels : List ℕ → List ℕ
other_levels [] = []
other_levels (l ∷ ls) = ls

apart_below : (ls : List ℕ) → AreApart (cuboids_below ls)
unfolding first_level other_levels
apart_below [] = ((λ m. absurd m), tt)
apart_below (l ∷ ls) = apart_flat (λ a. map (λ rest. a ∷ rest) (cuboids_below ls)) first_level (count_from 0 (suc l))
    (λ a. apart_map (λ rest. a ∷ rest) other_levels (cuboids_below ls) (λ rest. refl) (apart_below ls))
    (λ a c m. let r = IsIn-map (λ rest. a ∷ rest) c (cuboids_below ls) m in ap first_level (sym r.2))
    (apart_count 0 (suc l))

apart_keys : (ks : List (List ℕ)) → IsIncreasing ks → AreApart ks
apart_keys [] i = tt
apart_keys (k ∷ ks) i = ((λ m. not_before k (later k k ks i.0 m)), apart_keys ks i.1)

-- cells of the cuboids at or below one, by their keys
pub apart_cells : (g : Public) (test : List ℕ → ℕ → Bool) (ls : List ℕ) → AreApart (flat_map (λ c. map (cell c) (in_order (map (key_at g c) (filter (test c) (places g))))) (cuboids_below ls))
apart_cells g test ls = apart_flat (λ c. map (cell c) (in_order (map (key_at g c) (filter (test c) (places g))))) (λ t. t.levels) (cuboids_below ls)
    (λ c. apart_map (cell c) (λ t. t.key) (in_order (map (key_at g c) (filter (test c) (places g)))) (λ k. refl)
    (apart_keys (in_order (map (key_at g c) (filter (test c) (places g)))) (in_order_increasing (map (key_at g c) (filter (test c) (places g))))))
    (λ c t m. let r = IsIn-map (cell c) t (in_order (map (key_at g c) (filter (test c) (places g)))) m in ap (λ (s : Cell). s.levels) (sym r.2))
    (apart_below ls)

-- within one object no cell repeats
pub apart_under : (g : Public) (o : Object) → AreApart (under g o)
apart_under g o = apart_cells g (guards g o) o.levels

-- ---- each cell once

filter_all : {X : Type 0} (p : X → Bool) (xs : List X) → ((x : X) → IsIn x xs → p x ≡ true) → filter p xs ≡ xs
filter_all p [] h = refl
filter_all p (x ∷ xs) h = ap₂ (λ (b : Bool) (ys : List _). cond b (x ∷ ys) ys) (h x (inl refl)) (filter_all p xs (λ y m. h y (inr m)))

pub once_apart : (ts : List Cell) → AreApart ts → each_once ts ≡ ts
once_apart [] a = refl
once_apart (t ∷ ts) a =
    ap (λ (us : List Cell). t ∷ filter (λ s. not (same_cell t s)) us) (once_apart ts a.1)
    ∙ ap (λ (us : List Cell). t ∷ us) (filter_all (λ s. not (same_cell t s)) ts (λ s m. tested (same_cell t s)
    (λ e. absurd (a.0 (subst (λ u. IsIn u ts) (sym (same_cell_eq t s e)) m)))
    (λ e. ap not e)))

filter_append : {X : Type 0} (p : X → Bool) (xs ys : List X) → filter p (xs ++ ys) ≡ filter p xs ++ filter p ys
filter_append p [] ys = refl
filter_append p (x ∷ xs) ys = go (p x) (filter_append p xs ys)
  where
    go : (b : Bool) → filter p (xs ++ ys) ≡ filter p xs ++ filter p ys → cond b (x ∷ filter p (xs ++ ys)) (filter p (xs ++ ys)) ≡ cond b (x ∷ filter p xs) (filter p xs) ++ filter p ys
    go true r = ap (λ zs. x ∷ zs) r
    go false r = r

pub filter_joined : {X : Type 0} (p : X → Bool) (xs ys : List X) → filter p (xs ++ ys) ≡ filter p xs ++ filter p ys
filter_joined p xs ys = filter_append p xs ys

filter_twice : {X : Type 0} (p q r : X → Bool) (xs : List X) → ((x : X) → (p x && q x) ≡ r x) → filter p (filter q xs) ≡ filter r xs
filter_twice p q r [] h = refl
filter_twice p q r (x ∷ xs) h = step (p x) (q x) refl (filter q xs) (filter r xs) (filter_twice p q r xs h) ∙ ap (λ (b : Bool). cond b (x ∷ filter r xs) (filter r xs)) (h x)
  where
    step : (a b : Bool) → p x ≡ a → (rest done : List _) → filter p rest ≡ done → filter p (cond b (x ∷ rest) rest) ≡ cond (a && b) (x ∷ done) done
    step true true e rest done f = ap₂ (λ (z : Bool) (ys : List _). cond z (x ∷ ys) ys) e f
    step true false e rest done f = f
    step false true e rest done f = ap₂ (λ (z : Bool) (ys : List _). cond z (x ∷ ys) ys) e f
    step false false e rest done f = f

same_turned : (s t : Cell) → same_cell s t ≡ same_cell t s
same_turned s t = same_truth (same_cell s t) (same_cell t s)
    (λ e. ap (λ (u : Cell). same_cell u s) (sym (same_cell_eq s t e)) ∙ same_itself s)
    (λ e. ap (λ (u : Cell). same_cell u t) (sym (same_cell_eq t s e)) ∙ same_itself t)

neither : (a b : Bool) → (not a && not b) ≡ not (a || b)
neither true b = refl
neither false b = refl

-- cells that stand once behind others that stand once
pub once_append : (ss ts : List Cell) → each_once (ss ++ ts) ≡ each_once ss ++ filter (λ t. not (list_any (same_cell t) ss)) (each_once ts)
once_append [] ts = sym (filter_all (λ t. true) (each_once ts) (λ t m. refl))
once_append (s ∷ ss) ts =
    ap (λ (us : List Cell). s ∷ filter (λ t. not (same_cell s t)) us) (once_append ss ts)
    ∙ ap (λ (us : List Cell). s ∷ us) (filter_append (λ t. not (same_cell s t)) (each_once ss) (filter (λ t. not (list_any (same_cell t) ss)) (each_once ts)))
    ∙ ap (λ (us : List Cell). s ∷ (filter (λ t. not (same_cell s t)) (each_once ss) ++ us))
    (filter_twice (λ t. not (same_cell s t)) (λ t. not (list_any (same_cell t) ss)) (λ t. not (same_cell t s || list_any (same_cell t) ss)) (each_once ts)
    (λ t. ap (λ (b : Bool). not b && not (list_any (same_cell t) ss)) (same_turned s t) ∙ neither (same_cell t s) (list_any (same_cell t) ss)))
