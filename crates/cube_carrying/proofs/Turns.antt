-- Lists that are joined number by number.
use Rattle.std.specs.List.{flat_map}
use Rattle.std.proofs.Common.{◌≡◌, ℕ, zero, suc, ◌+◌, ◌-◌, ◌<◌, List, [], ◌∷◌, ◌++◌, Some, ap, ap₂, ◌∙◌, subst, arith, append-nil}
use Rattle.std.proofs.lemmas.Grind.{flat_map-append}
use Rattle.cube_model.specs.Cubes.{count_from}
use Rattle.cube_model.specs.Protection.{first}
use Rattle.cube_model.proofs.DimsFacts.{count_from-more}

from_zero : (n : ℕ) → 0 + n ≡ n
from_zero n = omega arith

-- one number more
pub joined_more : {X : Type 0} (f : ℕ → List X) (n : ℕ) → flat_map f (count_from 0 (n + 1)) ≡ flat_map f (count_from 0 n) ++ f n
joined_more f n =
    ap (flat_map f) (count_from-more 0 n)
    ∙ flat_map-append f (count_from 0 n) ((0 + n) ∷ [])
    ∙ ap (λ (k : ℕ). flat_map f (count_from 0 n) ++ (f k ++ [])) (from_zero n)
    ∙ ap (λ ys. flat_map f (count_from 0 n) ++ ys) (append-nil (f n))

pub nothing_more : {X : Type 0} (f : ℕ → List X) (n : ℕ) → flat_map f (count_from 0 n) ≡ [] → f n ≡ [] → flat_map f (count_from 0 (n + 1)) ≡ []
nothing_more f n e h = joined_more f n ∙ ap₂ (λ xs ys. xs ++ ys) e h

first_front : {X : Type 0} (xs ys : List X) (y : X) → first xs ≡ Some y → first (xs ++ ys) ≡ Some y
first_front [] ys y e = absurd (cc)
first_front (x ∷ xs) ys y e = e

first_behind : {X : Type 0} (f : ℕ → List X) (k more : ℕ) (y : X) → flat_map f (count_from 0 k) ≡ [] → first (f k) ≡ Some y → first (flat_map f (count_from 0 (k + 1 + more))) ≡ Some y
first_behind f k zero y none e = ap (λ n. first (flat_map f (count_from 0 n))) end ∙ ap first (joined_more f k ∙ ap (λ xs. xs ++ f k) none) ∙ e
  where
    end : k + 1 + zero ≡ k + 1
    end = omega arith
first_behind f k (suc more) y none e = ap (λ n. first (flat_map f (count_from 0 n))) end ∙ ap first (joined_more f (k + 1 + more)) ∙ first_front (flat_map f (count_from 0 (k + 1 + more))) (f (k + 1 + more)) y (first_behind f k more y none e)
  where
    end : k + 1 + suc more ≡ k + 1 + more + 1
    end = omega arith

-- where the lists before it are empty, the first of one is the first of all
pub first_joined : {X : Type 0} (f : ℕ → List X) (n k : ℕ) (y : X) → k < n → flat_map f (count_from 0 k) ≡ [] → first (f k) ≡ Some y → first (flat_map f (count_from 0 n)) ≡ Some y
first_joined f n k y l none e = subst (λ i. first (flat_map f (count_from 0 i)) ≡ Some y) end (first_behind f k (n - k - 1) y none e)
  where
    end : k + 1 + (n - k - 1) ≡ n
    end = omega arith
