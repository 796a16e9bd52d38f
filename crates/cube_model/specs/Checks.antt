-- The checks of a file or a text in their order, of which the first that fails is the fault.
use Rattle.std.specs.Prelude.{Bool, List, [], ◌∷◌, ◌++◌, if◌then◌else◌, Result, Ok, Err}

-- a fault that is there where its check fails
abbrev pub check : {F : Type 0} → Bool → F → List F
check failed f = if failed then f ∷ [] else []

-- what is found in each item, given those before it
abbrev pub in_turn : {X F : Type 0} → (List X → X → List F) → List X → List X → List F
in_turn f earlier [] = []
in_turn f earlier (x ∷ xs) = f earlier x ++ in_turn f (earlier ++ x ∷ []) xs

-- the value, unless there is a fault; then the first
abbrev pub unless : {F X : Type 0} → List F → X → Result X F
unless [] x = Ok x
unless (f ∷ fs) x = Err f
