-- One more item of a list.
use Rattle.std.proofs.Common.{◌≡◌, ◌≤◌, ◌<◌, ◌+◌, ◌-◌, ℕ, zero, suc, List, [], ◌∷◌, ◌++◌, refl, arith}
use Rattle.cube_query.specs.Reading.{Step, stuck, onto, next_in, by_next, items_in}

pub items_more : {A : Type 0} (item : List ℕ → Step A) (n all turn : ℕ) (xs : List A) (rest : List ℕ) → turn < all
    → items_in item n (all - turn) xs rest ≡ onto (item rest) (λ x rest. onto (next_in n rest) (λ w rest. by_next (λ xs rest. items_in item n (all - (turn + 1)) xs rest) (xs ++ x ∷ []) w rest))
unfolding items_in
items_more item n all turn xs rest l = let e : all - turn ≡ suc (all - (turn + 1)) = omega (arith, l) in rw e refl

pub items_over : {A : Type 0} (item : List ℕ → Step A) (n all turn : ℕ) (xs : List A) (rest : List ℕ) → all ≤ turn → items_in item n (all - turn) xs rest ≡ stuck n rest
unfolding items_in
items_over item n all turn xs rest l = let e : all - turn ≡ zero = omega (arith, l) in rw e refl
