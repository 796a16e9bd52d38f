-- A test of a part of each item is a test of the list of the parts.
use Rattle.std.proofs.Common.{◌≡◌, List, [], ◌∷◌, ◌+◌, not, ℕ, Bool, true, false, cond, map, length, nat_lt, Some, None, refl, ap, if◌then◌else◌, position}
use Rattle.std.specs.List.{list_any, position_or_len}
use Rattle.std.proofs.lemmas.List.{length-map}

pub position_or_len-map : {A B : Type 0} (part : A → B) (test : B → Bool) (xs : List A)
    → position_or_len test (map part xs) ≡ position_or_len (λ x. test (part x)) xs
position_or_len-map part test [] = refl
position_or_len-map part test (x ∷ xs) = ap (λ (n : ℕ). if not (test (part x)) then 1 + n else 0) (position_or_len-map part test xs)

pub position-map : {A B : Type 0} (part : A → B) (test : B → Bool) (xs : List A)
    → position test (map part xs) ≡ position (λ x. test (part x)) xs
position-map part test xs = rw (position_or_len-map part test xs, length-map xs part) refl

pub list_any-map : {A B : Type 0} (part : A → B) (test : B → Bool) (xs : List A)
    → list_any test (map part xs) ≡ list_any (λ x. test (part x)) xs
list_any-map part test [] = refl
list_any-map part test (x ∷ xs) = rw (list_any-map part test xs) refl

pub position-is : {A : Type 0} (test : A → Bool) (xs : List A) (n : ℕ) → position test xs ≡ Some n → n ≡ position_or_len test xs
position-is test xs n h = by_test (nat_lt (position_or_len test xs) (length xs)) h
  where
    by_test : (b : Bool) → cond b (Some (position_or_len test xs)) None ≡ Some n → n ≡ position_or_len test xs
    by_test true k = cc
    by_test false k = absurd (cc)
