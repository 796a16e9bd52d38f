-- The number of a name among names, each of which stands once.
use Rattle.std.proofs.Common.{◌≡◌, ℕ, suc, ◌+◌, ◌<◌, Bool, true, false, not, cond, ◌||◌, List, [], ◌∷◌, length, get_or, Some, None, refl, sym, ap, ◌∙◌, arith, ltb, nat_lt}
use Rattle.std.specs.List.{list_any, position_or_len}
use Rattle.std.specs.Str.{bytes_eq}
use Rattle.std.proofs.lemmas.Bool.Decides.{nat_tests}
use Rattle.std.proofs.lemmas.Bool.{lt-ltb}
use Rattle.cube_model.specs.Cubes.{place_of}
use Rattle.cube_model.specs.Dims.{found, AreDistinct}
use Rattle.cube_model.proofs.DimsFacts.{place_of-position, place_of-own}

pub found_in : (names : List (List ℕ)) (k : ℕ) (name : List ℕ) → AreDistinct names → k < length names → get_or names k [] ≡ name → found name names ≡ Some k
found_in names k name own l e =
    let at : position_or_len (bytes_eq name) names ≡ k = sym (place_of-position name names) ∙ ap (λ x. place_of x names) (sym e) ∙ place_of-own names own k l in
    let test : ltb (position_or_len (bytes_eq name) names) (length names) ≡ true = lt-ltb (position_or_len (bytes_eq name) names) (length names) (omega (arith, at, l)) in
    rw test (ap (λ (p : ℕ). Some p) at)

any_below : {X : Type 0} (test : X → Bool) (xs : List X) → list_any test xs ≡ nat_lt (position_or_len test xs) (length xs)
any_below test [] = refl
any_below test (x ∷ xs) = by_test (test x) (any_below test xs)
  where
    by_test : (b : Bool) → list_any test xs ≡ nat_lt (position_or_len test xs) (length xs) → (b || list_any test xs) ≡ nat_lt (cond (not b) (1 + position_or_len test xs) 0) (suc (length xs))
    by_test true e = grind (arith, nat_tests)
    by_test false e = grind (arith, nat_tests, e)

-- whether a name is there, by the number that is found
pub found-any : (name : List ℕ) (names : List (List ℕ)) (n : ℕ) → found name names ≡ Some n → list_any (bytes_eq name) names ≡ true
found-any name names n e = any_below (bytes_eq name) names ∙ by_test (nat_lt (position_or_len (bytes_eq name) names) (length names)) e
  where
    by_test : (b : Bool) → cond b (Some (position_or_len (bytes_eq name) names)) None ≡ Some n → b ≡ true
    by_test true e = refl
    by_test false e = absurd (cc)

pub found-none : (name : List ℕ) (names : List (List ℕ)) → found name names ≡ None → list_any (bytes_eq name) names ≡ false
found-none name names e = any_below (bytes_eq name) names ∙ by_test (nat_lt (position_or_len (bytes_eq name) names) (length names)) e
  where
    by_test : (b : Bool) → cond b (Some (position_or_len (bytes_eq name) names)) None ≡ None → b ≡ false
    by_test true e = absurd (cc)
    by_test false e = refl
