-- Searches through places, and the way up from one.
use mathlib.Core.Bool.{xor, beq}
use Rattle.std.specs.List.{find}
use Rattle.std.proofs.Common.{◌≡◌, ◌≢◌, ℕ, zero, suc, ◌+◌, ◌<◌, inl, inr, Bool, true, false, cond, not, ◌||◌, List, [], ◌∷◌, length, take, get_or, refl, sym, ap, ap₂, ◌∙◌, arith, eqb, Option, Some, None}
use Rattle.std.proofs.lemmas.Bool.{cond-true, cond-false, or_left, or_right, eq-eqb, ne_eqb}
use Rattle.std.proofs.lemmas.List.{take_more}
use Rattle.std.proofs.lemmas.List.Folds.{find-append}
use Rattle.std.specs.Option.{option_or}
use Rattle.cube_model.specs.Cubes.{IsIn}
use Rattle.cube_model.proofs.Members.{tested}

pub find_same : {X : Type 0} (p q : X → Bool) (xs : List X) → ((x : X) → IsIn x xs → p x ≡ q x) → find p xs ≡ find q xs
find_same p q [] h = refl
find_same p q (x ∷ xs) h = ap₂ (λ (b : Bool) (r : Option _). cond b (Some x) r) (h x (inl refl)) (find_same p q xs (λ y k. h y (inr k)))

pub find_found : (p : ℕ → Bool) (xs : List ℕ) (i : ℕ) → i < length xs → find p (take i xs) ≡ None → p (get_or xs i 0) ≡ true → find p xs ≡ Some (get_or xs i 0)
find_found p [] i lt none t = absurd (omega (arith, lt))
find_found p (x ∷ xs) zero lt none t = cond-true (p x) (Some x) (find p xs) t
find_found p (x ∷ xs) (suc i) lt none t = tested (p x)
    (λ e. absurd (clash x (sym (cond-true (p x) (Some x) (find p (take i xs)) e) ∙ none)))
    (λ e. cond-false (p x) (Some x) (find p xs) e ∙ find_found p xs i (omega (arith, lt)) (sym (cond-false (p x) (Some x) (find p (take i xs)) e) ∙ none) t)
  where
    clash : (y : ℕ) → Some y ≡ None → ⊥
    clash y e = cc

pub find_more : (p : ℕ → Bool) (xs : List ℕ) (i : ℕ) → i < length xs → find p (take i xs) ≡ None → p (get_or xs i 0) ≡ false → find p (take (i + 1) xs) ≡ None
find_more p xs i lt none f = ap (find p) (take_more xs i 0 lt) ∙ find-append p (take i xs) (get_or xs i 0 ∷ []) ∙ ap (λ (o : Option ℕ). option_or o (find p (get_or xs i 0 ∷ []))) none ∙ cond-false (p (get_or xs i 0)) (Some (get_or xs i 0)) None f

pub one_of : (a r one other : ℕ) → a ≡ r → r ≡ one → (eqb a one || eqb a other) ≡ true
one_of a r one other e f = or_left (eqb a one) (eqb a other) (eq-eqb a one (e ∙ f))

pub other_of : (a r one other : ℕ) → a ≡ r → r ≡ other → (eqb a one || eqb a other) ≡ true
other_of a r one other e f = or_right (eqb a one) (eqb a other) (eq-eqb a other (e ∙ f))

pub none_of : (a r one other : ℕ) → a ≡ r → r ≢ one → r ≢ other → (eqb a one || eqb a other) ≡ false
none_of a r one other e f g = ap₂ (λ u v. u || v) (ne_eqb a one (λ z. f (sym e ∙ z))) (ne_eqb a other (λ z. g (sym e ∙ z)))

-- one step up
pub step_up : (a b u v w : Bool) → xor a u ≡ v → u ≡ xor b w → xor (not (beq a b)) w ≡ v
unfolding xor
step_up true true u v true e f = sym (ap (xor true) f) ∙ e
step_up true true u v false e f = sym (ap (xor true) f) ∙ e
step_up true false u v true e f = sym (ap (xor true) f) ∙ e
step_up true false u v false e f = sym (ap (xor true) f) ∙ e
step_up false true u v true e f = sym (ap (xor false) f) ∙ e
step_up false true u v false e f = sym (ap (xor false) f) ∙ e
step_up false false u v true e f = sym (ap (xor false) f) ∙ e
step_up false false u v false e f = sym (ap (xor false) f) ∙ e

-- what stands at an index is in the list
pub member_at : {X : Type 0} (xs : List X) (k : ℕ) (d : X) → k < length xs → IsIn (get_or xs k d) xs
member_at [] k d lt = absurd (omega (arith, lt))
member_at (x ∷ xs) zero d lt = inl refl
member_at (x ∷ xs) (suc k) d lt = inr (member_at xs k d (omega (arith, lt)))
