-- The bytes of an input as lines.
use Rattle.std.specs.Prelude.{ℕ, Bool, ◌==◌, List, [], ◌∷◌, map}
use Rattle.std.specs.List.{slice_split}
use Rattle.std.specs.Str.Lines.{strip_carriage_return}

abbrev pub is_feed : ℕ → Bool
is_feed b = b == 10

-- all but the last
abbrev pub front : {X : Type 0} → List X → List X
front [] = []
front (x ∷ []) = []
front (x ∷ y ∷ more) = x ∷ front (y ∷ more)

-- the last, or no bytes
abbrev pub last_part : List (List ℕ) → List ℕ
last_part [] = []
last_part (x ∷ []) = x
last_part (x ∷ y ∷ more) = last_part (y ∷ more)

-- what stands between the line feeds of a text
abbrev pub parts : List ℕ → List (List ℕ)
parts text = slice_split is_feed text

-- the lines that a line feed ends, each without a carriage return before it
abbrev pub ended_lines : List ℕ → List (List ℕ)
ended_lines text = map strip_carriage_return (front (parts text))

-- what stands behind the last line feed
abbrev pub open_line : List ℕ → List ℕ
open_line text = last_part (parts text)
