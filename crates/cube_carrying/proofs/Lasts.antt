-- The last element that passes a test.
use Rattle.std.proofs.Common.{◌≡◌, ℕ, ◌+◌, ◌<◌, Bool, true, false, cond, ◌&&◌, List, [], ◌∷◌, ◌++◌, length, filter, take, get_or, Some, refl, sym, ap, ap₂, ◌∙◌}
use Rattle.std.proofs.lemmas.List.{take_more}
use Rattle.std.proofs.lemmas.List.Elements.{filter-append}
use Rattle.cube_carry.specs.Carrying.{last}

last_of : {X : Type 0} (x : X) (xs : List X) → last (xs ++ x ∷ []) ≡ Some x
last_of x [] = refl
last_of x (y ∷ []) = refl
last_of x (y ∷ z ∷ zs) = last_of x (z ∷ zs)

-- where one passes, it is the last of those up to it
pub last_kept : {X : Type 0} (p : X → Bool) (xs : List X) (k : ℕ) (x : X) → k < length xs → x ≡ get_or xs k x → p x ≡ true → last (filter p (take (k + 1) xs)) ≡ Some x
last_kept {X} p xs k x l is e =
    ap (λ (ys : List X). last (filter p ys)) (take_more xs k x l ∙ ap (λ (y : X). take k xs ++ y ∷ []) (sym is))
    ∙ ap last (filter-append p (take k xs) (x ∷ []) ∙ ap (λ (b : Bool). filter p (take k xs) ++ cond b (x ∷ []) []) e)
    ∙ last_of x (filter p (take k xs))

pub filter_alike : {X : Type 0} (p q : X → Bool) (xs : List X) → ((x : X) → p x ≡ q x) → filter p xs ≡ filter q xs
filter_alike p q [] h = refl
filter_alike {X} p q (x ∷ xs) h = ap₂ (λ (b : Bool) (ys : List X). cond b (x ∷ ys) ys) (h x) (filter_alike p q xs h)

pub and_false : (b : Bool) → (b && false) ≡ false
and_false true = refl
and_false false = refl
