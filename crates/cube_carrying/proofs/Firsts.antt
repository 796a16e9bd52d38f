-- The first of the numbers that has something.
use Rattle.std.proofs.Common.{◌≡◌, ℕ, zero, suc, ◌+◌, ◌<◌, ◌≤◌, ◌⊎◌, inl, inr, Option, Some, None, refl, ap, ◌∙◌, arith, ltb}
use Rattle.cube_model.specs.Cubes.{count_from}
use Rattle.cube_carrying.specs.Firsts.{first_with, with_number}
use Rattle.std.proofs.lemmas.Bool.{ltb-true, ltb-false}
use Rattle.cube_model.proofs.Members.{tested}

-- what holds of all numbers before one, and of it
pub up_to : {Y : Type 0} (f : ℕ → Y) (y : Y) (i : ℕ) → ((k : ℕ) → k < i → f k ≡ y) → f i ≡ y → (k : ℕ) → k < i + 1 → f k ≡ y
up_to f y i h e k l = tested (ltb k i) (λ t. h k (ltb-true k i t)) (λ u. let b = ltb-false k i u in let q : k ≡ i = omega (arith, b, l) in ap f q ∙ e)

same_or_above : (s k : ℕ) → s ≤ k → (s ≡ k) ⊎ (suc s ≤ k)
same_or_above s k a = grind arith

pub with_at : {Y : Type 0} (f : ℕ → Option Y) (s n k : ℕ) (y : Y) → s ≤ k → k < s + n → ((j : ℕ) → j < k → f j ≡ None) → f k ≡ Some y → first_with f (count_from s n) ≡ Some (k, y)
with_at f s zero k y a b none e = absurd (omega (arith, a, b))
with_at {Y} f s (suc n) k y a b none e = go (same_or_above s k a) (λ l. with_at f (suc s) n k y l (omega (arith, b)) none e)
  where
    go : (s ≡ k) ⊎ (suc s ≤ k) → (suc s ≤ k → first_with f (count_from (suc s) n) ≡ Some (k, y)) → first_with f (count_from s (suc n)) ≡ Some (k, y)
    go (inl q) again = ap (λ (o : Option Y). with_number s o (first_with f (count_from (suc s) n))) (ap f q ∙ e) ∙ ap (λ (i : ℕ). Some (i, y)) q
    go (inr l) again = ap (λ (o : Option Y). with_number s o (first_with f (count_from (suc s) n))) (none s (omega (arith, l))) ∙ again l

pub with_none : {Y : Type 0} (f : ℕ → Option Y) (s n : ℕ) → ((j : ℕ) → j < s + n → f j ≡ None) → first_with f (count_from s n) ≡ None
with_none f s zero none = refl
with_none {Y} f s (suc n) none = ap (λ (o : Option Y). with_number s o (first_with f (count_from (suc s) n))) (none s (omega arith)) ∙ with_none f (suc s) n (λ j l. none j (omega (arith, l)))
