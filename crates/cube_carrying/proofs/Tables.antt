-- Tables that are made entry by entry.
use Rattle.std.proofs.Common.{◌≡◌, ℕ, zero, suc, ◌+◌, ◌<◌, [], ◌∷◌, ◌++◌, map, get_or, ap, ◌∙◌, arith}
use Rattle.std.proofs.lemmas.List.{map-append}
use Rattle.cube_model.specs.Cubes.{count_from}
use Rattle.cube_model.proofs.DimsFacts.{count_from-more}

from_zero : (n : ℕ) → 0 + n ≡ n
from_zero n = omega arith

pub numbers_more : {X : Type 0} (f : ℕ → X) (n : ℕ) → map f (count_from 0 (n + 1)) ≡ map f (count_from 0 n) ++ f n ∷ []
numbers_more f n = ap (map f) (count_from-more 0 n) ∙ map-append f (count_from 0 n) ((0 + n) ∷ []) ∙ ap (λ (k : ℕ). map f (count_from 0 n) ++ f k ∷ []) (from_zero n)

counted_on : {X : Type 0} (f : ℕ → X) (d : X) (s n k : ℕ) → k < n → get_or (map f (count_from s n)) k d ≡ f (s + k)
counted_on f d s zero k l = absurd (omega (arith, l))
counted_on f d s (suc n) zero l = ap f (omega arith)
counted_on f d s (suc n) (suc k) l = counted_on f d (suc s) n k (omega (arith, l)) ∙ ap f (omega arith)

-- an entry is what was counted
pub counted_at : {X : Type 0} (f : ℕ → X) (d : X) (n k : ℕ) → k < n → get_or (map f (count_from 0 n)) k d ≡ f k
counted_at f d n k l = counted_on f d 0 n k l ∙ ap f (from_zero k)
