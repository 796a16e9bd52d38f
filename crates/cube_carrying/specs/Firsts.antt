-- The first of some things that fails a test.
use Rattle.std.specs.Prelude.{ℕ, Bool, not, List, [], ◌∷◌, find, position, Option, Some, None}
use Rattle.cube_model.specs.Cubes.{count_from}

-- the number of the first element that fails a test
abbrev pub first_failing : {X : Type 0} → (X → Bool) → List X → Option ℕ
first_failing p xs = position (λ x. not (p x)) xs

-- the first of so many numbers that fails a test
abbrev pub first_number : (ℕ → Bool) → ℕ → Option ℕ
first_number p n = find (λ k. not (p k)) (count_from 0 n)

-- a number with what it has, or what another one has
abbrev pub with_number : {Y : Type 0} → ℕ → Option Y → Option (ℕ × Y) → Option (ℕ × Y)
with_number k None other = other
with_number k (Some y) other = Some (k, y)

-- the first of the numbers that has something, with what it has
abbrev pub first_with : {Y : Type 0} → (ℕ → Option Y) → List ℕ → Option (ℕ × Y)
first_with f [] = None
first_with f (k ∷ ks) = with_number k (f k) (first_with f ks)
