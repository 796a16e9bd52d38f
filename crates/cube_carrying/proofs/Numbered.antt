-- The places of old points as a table.
use Rattle.std.proofs.Common.{◌≡◌, ℕ, zero, suc, ◌+◌, ◌<◌, length, map, get_or, ap, ◌∙◌, arith}
use Rattle.std.proofs.lemmas.List.{get_or-map, length-map}
use Rattle.cube_model.specs.Cubes.{count_from}
use Rattle.cube_model.proofs.Sums.{length-count_from}

counted : (s n i : ℕ) → i < n → get_or (count_from s n) i 0 ≡ s + i
counted s zero i h = absurd (omega (arith, h))
counted s (suc n) zero h = omega arith
counted s (suc n) (suc i) h = counted (suc s) n i (omega (arith, h)) ∙ omega arith

pub number_at : (f : ℕ → ℕ) (n i : ℕ) → i < n → get_or (map f (count_from 0 n)) i 0 ≡ f i
number_at f n i h = get_or-map f (count_from 0 n) i 0 0 (let e = length-count_from 0 n in omega (arith, e, h)) ∙ ap f (counted 0 n i h ∙ omega arith)

pub length-numbers : (f : ℕ → ℕ) (n : ℕ) → length (map f (count_from 0 n)) ≡ n
length-numbers f n = length-map (count_from 0 n) f ∙ length-count_from 0 n
