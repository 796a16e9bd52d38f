-- A cell that covers no other places than a second one has no more facts than it.
use Rattle.std.proofs.Common.{◌≡◌, ℕ, ◌+◌, ◌<◌, ◌≤◌, inl, inr, Bool, true, false, cond, List, [], ◌∷◌, map, filter, sum, get_or, Option, Some, None, refl, arith}
use Rattle.std.proofs.lemmas.Bool.{false≢true, lt-ltb, ltb-true}
use Rattle.std.proofs.lemmas.List.Sums.{sum_by-cons}
use Rattle.cube_model.specs.declared.cell.Cell.{Cell}
use Rattle.cube_model.specs.Cubes.{Public, covers, places, IsIn}
use Rattle.cube_model.specs.Protection.{facts_in, has_fewer}

sum_less : (f : ℕ → ℕ) (p q : ℕ → Bool) (xs : List ℕ) → ((x : ℕ) → IsIn x xs → p x ≡ true → q x ≡ true) → sum (map f (filter p xs)) ≤ sum (map f (filter q xs))
sum_less f p q [] h = omega arith
sum_less f p q (x ∷ xs) h = go (p x) (q x) (h x (inl refl)) (sum_less f p q xs (λ y m. h y (inr m)))
  where
    go : (a b : Bool) → (a ≡ true → b ≡ true) → sum (map f (filter p xs)) ≤ sum (map f (filter q xs)) → sum (map f (cond a (x ∷ filter p xs) (filter p xs))) ≤ sum (map f (cond b (x ∷ filter q xs) (filter q xs)))
    go true true k r =
        let a = sum_by-cons (λ n. n) (f x) (map f (filter p xs)) in
        let b = sum_by-cons (λ n. n) (f x) (map f (filter q xs)) in
        omega (arith, a, b, r)
    go true false k r = absurd (false≢true (k refl))
    go false true k r = let b = sum_by-cons (λ n. n) (f x) (map f (filter q xs)) in omega (arith, b, r)
    go false false k r = r

-- what has few enough facts has so by less places
pub fewer_smaller : (g : Public) (fewer : Option ℕ) (s t : Cell) → ((j : ℕ) → IsIn j (places g) → covers g s j ≡ true → covers g t j ≡ true) → has_fewer g fewer t ≡ true → has_fewer g fewer s ≡ true
fewer_smaller g None s t h e = refl
fewer_smaller g (Some n) s t h e =
    let less : facts_in g s ≤ facts_in g t = sum_less (λ i. get_or g.shape.facts i 0) (covers g s) (covers g t) (places g) h in
    let few = ltb-true (facts_in g t) n e in
    lt-ltb (facts_in g s) n (omega (arith, less, few))
