-- What first and least mean.
use Rattle.std.specs.Prelude.{◌≡◌, ℕ, ◌+◌, ◌<◌, ◌≤◌, ◌⊎◌, Bool, true, false, List, ◌∷◌, ◌++◌, length, find, Some, None}
use Rattle.cube_model.specs.declared.cell.Cell.{Cell}
use Rattle.cube_model.specs.Cubes.{Public, together, covers, covered, count_from, IsIn}
use Rattle.cube_model.specs.Protection.{protected, cutting_pairs, first, is_cut, uncut}

-- a search among numbers in order finds the least
pub record IsLeast (p : ℕ → Bool) (s n k : ℕ) : Type 0 where
  pub from : s ≤ k
  pub below : k < s + n
  pub passes : p k ≡ true
  pub none_before : (j : ℕ) → s ≤ j → j < k → p j ≡ false

abbrev pub FindsLeast : Type 0
FindsLeast = (p : ℕ → Bool) (s n k : ℕ) → find p (count_from s n) ≡ Some k → IsLeast p s n k

abbrev pub FindsNone : Type 0
FindsNone = (p : ℕ → Bool) (s n : ℕ) → find p (count_from s n) ≡ None → (j : ℕ) → s ≤ j → j < s + n → p j ≡ false

-- the first covered place is the least
abbrev pub FirstCovered : Type 0
FirstCovered = (g : Public) (t : Cell) (i k : ℕ) → first (covered g t) ≡ Some i → k < length g.shape.points → covers g t k ≡ true → i ≤ k

-- the first cutting pair has the least first place, and then the least second
abbrev pub FirstCut : Type 0
FirstCut = (g : Public) (c : List ℕ) (t : Cell) (e : ℕ × ℕ) (i j : ℕ) → first (cutting_pairs g c t) ≡ Some e → i < length g.shape.points → j < length g.shape.points → covers g t i ≡ true → covers g t j ≡ false → together g c i j ≡ true → (e.0 < i) ⊎ ((e.0 ≡ i) × (e.1 ≤ j))

-- the uncut cell is the first that is not cut
pub record IsFirstUncut (g : Public) (c : List ℕ) (m : ℕ) (t : Cell) : Type 0 where
  pub before : List Cell
  pub after : List Cell
  pub split : protected g m ≡ before ++ t ∷ after
  pub cut_before : (s : Cell) → IsIn s before → is_cut g c s ≡ true
  pub not_cut : is_cut g c t ≡ false

abbrev pub UncutIsFirst : Type 0
UncutIsFirst = (g : Public) (c : List ℕ) (m : ℕ) (t : Cell) → uncut g c m ≡ Some t → IsFirstUncut g c m t
