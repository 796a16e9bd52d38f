-- How somebody answers lines, with the laws of that.
use Rattle.std.proofs.Common.{ℕ, ◌<◌, List, [], ◌∷◌, ◌++◌, length}

-- The states of who answers, and of a store, before and after some lines, and the text that is said to them.
pub record Speech (A B : Type 0) : Type 1 where
  pub says : A → B → List (List ℕ) → A → B → List ℕ → Type 0
  pub silent : (x : A) (s : B) → says x s [] x s []
  pub onward : (x y z : A) (s t u : B) (first more : List (List ℕ)) (text behind : List ℕ) → says x s first y t text → says y t more z u behind → says x s (first ++ more) z u (text ++ behind)
  pub alike : (x y : A) (s t : B) (line other text : List ℕ) → 65536 < length line → 65536 < length other → says x s (line ∷ []) y t text → says x s (other ∷ []) y t text
