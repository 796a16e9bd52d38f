-- Lines that end with a line feed.
use Rattle.std.specs.Prelude.{◌≡◌, ◌≢◌, ⊤, ℕ, ◌==◌, List, [], ◌∷◌, ◌++◌, if◌then◌else◌}
use Rattle.cube_model.specs.Cubes.{Each}

-- a byte in front of the first of these lines; where there is none, it is on no line that ends
abbrev pub onto : ℕ → List (List ℕ) → List (List ℕ)
onto b [] = []
onto b (l ∷ ls) = (b ∷ l) ∷ ls

-- the lines that end with a line feed, without it
abbrev pub ended_lines : List ℕ → List (List ℕ)
ended_lines [] = []
ended_lines (b ∷ bs) = if b == 10 then [] ∷ ended_lines bs else onto b (ended_lines bs)

-- no line feed among the bytes
abbrev pub IsInLine : List ℕ → Type 0
IsInLine bytes = Each (λ b. b ≢ 10) bytes

-- a line with its line feed, and no other
pub record IsLine (line : List ℕ) : Type 0 where
  pub text : List ℕ
  pub ended : line ≡ text ++ 10 ∷ []
  pub clean : IsInLine text

-- the last byte, where there is one, is a line feed
abbrev pub IsEnded : List ℕ → Type 0
IsEnded [] = ⊤
IsEnded (b ∷ []) = b ≡ 10
IsEnded (b ∷ c ∷ bs) = IsEnded (c ∷ bs)

-- some first bytes of these
abbrev pub IsPrefix : List ℕ → List ℕ → Type 0
IsPrefix p bytes = (rest : List ℕ) × (p ++ rest ≡ bytes)
