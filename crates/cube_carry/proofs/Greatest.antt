-- The greatest cuboid by number.
use Rattle.std.proofs.Common.{◌≡◌, ℕ, zero, suc, ◌+◌, ◌*◌, ◌<◌, ◌≤◌, inl, inr, Bool, true, false, cond, List, [], ◌∷◌, ◌++◌, map, filter, flat_map, Some, None, refl, sym, ap, subst, arith, ⊎_elim}
use Rattle.std.proofs.Math.Nat.{mul-le-mul_right, suc-mul}
use Rattle.std.proofs.lemmas.Bool.{and_parts, false_from_ne_true}
use Rattle.cube_model.specs.Cubes.{Dimension, cuboids_below, cuboid_count, cuboid_number, are_levels, count_from, Each, IsIn}
use Rattle.cube_model.specs.Dims.{plains}
use Rattle.cube_model.proofs.Histories.{Each-at}
use Rattle.cube_model.proofs.Members.{IsIn-append, IsIn-filter, filter_has, IsIn-map, IsIn-flat_map, IsIn-count_from}
use Rattle.cube_model.proofs.Numbers.{number_below}
use Rattle.cube_model.proofs.Objects.{below_finer, finer_below}
use Rattle.cube_carry.specs.Names.{carried_levels}
use Rattle.cube_carry.specs.Carrying.{can_stand, last, SourceIsGreatest, NoSourceStands}
use Rattle.cube_carry.proofs.Carried.{last_in}
use Rattle.cube_carry.proofs.Orders.{finer_in_range}

-- the numbers do not fall
abbrev Rises : {X : Type 0} → (X → ℕ) → List X → Type 0
Rises num [] = Unit {0}
Rises num (x ∷ xs) = Each (λ y. num x ≤ num y) xs × Rises num xs

each_from : {X : Type 0} (P : X → Type 0) (xs : List X) → ((x : X) → IsIn x xs → P x) → Each P xs
each_from P [] h = tt
each_from P (x ∷ xs) h = (h x (inl refl), each_from P xs (λ y k. h y (inr k)))

rises_append : {X : Type 0} (num : X → ℕ) (xs ys : List X) → Rises num xs → Rises num ys → ((x y : X) → IsIn x xs → IsIn y ys → num x ≤ num y) → Rises num (xs ++ ys)
rises_append num [] ys p q h = q
rises_append num (x ∷ xs) ys p q h = (
  each_from (λ y. num x ≤ num y) (xs ++ ys) (λ y k. ⊎_elim (λ a. Each-at (λ y. num x ≤ num y) y xs p.0 a) (λ b. h x y (inl refl) b) (IsIn-append y xs ys k)),
  rises_append num xs ys p.1 q (λ u v a b. h u v (inr a) b),
)

rises_map : {X Y : Type 0} (num : X → ℕ) (num' : Y → ℕ) (g : X → Y) (xs : List X) → ((x y : X) → num x ≤ num y → num' (g x) ≤ num' (g y)) → Rises num xs → Rises num' (map g xs)
rises_map num num' g [] h p = tt
rises_map num num' g (x ∷ xs) h p = (
  each_from (λ y. num' (g x) ≤ num' y) (map g xs) (λ y k. let r = IsIn-map g y xs k in subst (λ z. num' (g x) ≤ num' z) r.2 (h x r.0 (Each-at (λ y. num x ≤ num y) r.0 xs p.0 r.1))),
  rises_map num num' g xs h p.1,
)

rises_filter : {X : Type 0} (num : X → ℕ) (p : X → Bool) (xs : List X) → Rises num xs → Rises num (filter p xs)
rises_filter num p [] r = tt
rises_filter num p (x ∷ xs) r = go (p x) (rises_filter num p xs r.1)
  where
    go : (b : Bool) → Rises num (filter p xs) → Rises num (cond b (x ∷ filter p xs) (filter p xs))
    go true q = (each_from (λ y. num x ≤ num y) (filter p xs) (λ y k. Each-at (λ y. num x ≤ num y) y xs r.0 (IsIn-filter p y xs k).1), q)
    go false q = q

the_one : {X : Type 0} (x y : X) → Some x ≡ Some y → x ≡ y
the_one x y e = cc

-- the last has the greatest number
last_greatest : {X : Type 0} (num : X → ℕ) (xs : List X) (c d : X) → Rises num xs → last xs ≡ Some c → IsIn d xs → num d ≤ num c
last_greatest num [] c d r e h = absurd h
last_greatest num (x ∷ []) c d r e (inl q) = subst (λ z. num z ≤ num c) q (subst (λ z. num x ≤ num z) (the_one x c e) (omega arith))
last_greatest num (x ∷ []) c d r e (inr k) = absurd k
last_greatest num (x ∷ y ∷ ys) c d r e (inl q) = subst (λ z. num z ≤ num c) q (Each-at (λ z. num x ≤ num z) c (y ∷ ys) r.0 (last_in c (y ∷ ys) e))
last_greatest num (x ∷ y ∷ ys) c d r e (inr k) = last_greatest num (y ∷ ys) c d r.1 e k

-- the cuboids as fine as one stand by number
module _ (d : Dimension) (ds : List Dimension) (below : List (List ℕ)) (in_range : (c : List ℕ) → IsIn c below → cuboid_number ds c < cuboid_count ds) (rises : Rises (cuboid_number ds) below) where
  abbrev at : ℕ → List (List ℕ)
  at a = map (λ rest. a ∷ rest) below

  number_at : (a : ℕ) (c : List ℕ) → IsIn c (at a) → (rest : List ℕ) × (cuboid_number ds rest < cuboid_count ds) × (cuboid_number (d ∷ ds) c ≡ a * cuboid_count ds + cuboid_number ds rest)
  number_at a c h = let r = IsIn-map (λ rest. a ∷ rest) c below h in (r.0, in_range r.0 r.1, ap (cuboid_number (d ∷ ds)) (sym r.2))

  rises_at : (s n : ℕ) → Rises (cuboid_number (d ∷ ds)) (flat_map at (count_from s n))
  rises_at s zero = tt
  rises_at s (suc n) = rises_append (cuboid_number (d ∷ ds)) (at s) (flat_map at (count_from (suc s) n))
      (rises_map (cuboid_number ds) (cuboid_number (d ∷ ds)) (λ rest. s ∷ rest) below (λ x y h. more (s * cuboid_count ds) (cuboid_number ds x) (cuboid_number ds y) h) rises)
      (rises_at (suc s) n)
      (λ x y p q. let u = number_at s x p in let v = IsIn-flat_map at y (count_from (suc s) n) q in let w = number_at v.0 y v.2 in
      apart (cuboid_number (d ∷ ds) x) (cuboid_number (d ∷ ds) y) s v.0 (cuboid_count ds) (cuboid_number ds u.0) (cuboid_number ds w.0) u.2 w.2 u.1 (IsIn-count_from v.0 (suc s) n v.1).0)
    where
      more : (a x y : ℕ) → x ≤ y → a + x ≤ a + y
      more a x y h = omega (arith, h)

      apart : (x y s a w p q : ℕ) → x ≡ s * w + p → y ≡ a * w + q → p < w → suc s ≤ a → x ≤ y
      apart x y s a w p q e f g h = let k = mul-le-mul_right w h in let z = suc-mul s w in ordered x y (s * w) (a * w) (suc s * w) w p q e f g k z
        where
          ordered : (x y sw aw tw w p q : ℕ) → x ≡ sw + p → y ≡ aw + q → p < w → tw ≤ aw → tw ≡ sw + w → x ≤ y
          ordered x y sw aw tw w p q e f g k z = omega (arith, e, f, g, k, z)

pub below_rises : (ds : List Dimension) (ls : List ℕ) → are_levels ds ls ≡ true → Rises (cuboid_number ds) (cuboids_below ls)
below_rises [] [] e = (tt, tt)
below_rises [] (l ∷ ls) e = absurd (cc)
below_rises (d ∷ ds) [] e = absurd (cc)
below_rises (d ∷ ds) (l ∷ ls) e =
    let p = (and_parts _ (are_levels ds ls) e).1 in
    rises_at d ds (cuboids_below ls) (λ c h. number_below ds c (finer_in_range ds c ls (below_finer ls c h) p)) (below_rises ds ls p) 0 (suc l)

pub source_is_greatest : SourceIsGreatest
source_is_greatest a b m s c range e = record {
  finer = below_finer (carried_levels a.dims b.dims s) c kept.1;
  stands = kept.0;
  greatest = λ d f g. last_greatest (cuboid_number (plains b.dims)) standing c d (rises_filter (cuboid_number (plains b.dims)) (can_stand a b m) (cuboids_below (carried_levels a.dims b.dims s)) (below_rises (plains b.dims) (carried_levels a.dims b.dims s) range)) e (filter_has (can_stand a b m) d (cuboids_below (carried_levels a.dims b.dims s)) g (finer_below (carried_levels a.dims b.dims s) d f));
}
  where
    standing : List (List ℕ)
    standing = filter (can_stand a b m) (cuboids_below (carried_levels a.dims b.dims s))

    kept : (can_stand a b m c ≡ true) × IsIn c (cuboids_below (carried_levels a.dims b.dims s))
    kept = IsIn-filter (can_stand a b m) c (cuboids_below (carried_levels a.dims b.dims s)) (last_in c standing e)

last_none : {X : Type 0} (x : X) (xs : List X) → last xs ≡ None → IsIn x xs → ⊥
last_none x [] e h = h
last_none x (y ∷ []) e h = absurd (cc)
last_none x (y ∷ z ∷ zs) e h = last_none z (z ∷ zs) e (inl refl)

pub no_source_stands : NoSourceStands
no_source_stands a b m s d e f = false_from_ne_true (can_stand a b m d) (λ t. last_none d (filter (can_stand a b m) (cuboids_below (carried_levels a.dims b.dims s))) e (filter_has (can_stand a b m) d (cuboids_below (carried_levels a.dims b.dims s)) t (finer_below (carried_levels a.dims b.dims s) d f)))
