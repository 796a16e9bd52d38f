-- Members that are looked up, and flags of listed places.
use Rattle.std.specs.List.{list_all}
use Rattle.std.specs.List.Sorted.{IsBinarySearchResult}
use Rattle.std.specs.Ordering.{nat_cmp}
use Rattle.std.specs.Result.{is_ok}
use Rattle.std.proofs.Common.{◌≡◌, ℕ, zero, suc, ◌<◌, ◌≤◌, Bool, true, false, List, [], ◌∷◌, length, get_or, Result, Ok, Err, sym, subst, arith, eqb, ltb}
use Rattle.std.proofs.lemmas.Bool.{and_parts, ltb-true, eq-eqb}
use Rattle.std.proofs.lemmas.Bool.Decides.{nat_tests}
use Rattle.std.proofs.lemmas.List.{get_or_default}
use Rattle.std.proofs.lemmas.List.Folds.{list_any_none, list_any_at}
use Rattle.std.proofs.lemmas.List.Sorted.{searched}
use Rattle.cube_model.specs.Policies.{are_rising}
use Rattle.cube_model.specs.Protection.{listed}
use Rattle.cube_model.proofs.Members.{tested}

all_at : (p : ℕ → Bool) (xs : List ℕ) (k : ℕ) → list_all p xs ≡ true → k < length xs → p (get_or xs k 0) ≡ true
all_at p [] k e l = absurd (omega (arith, l))
all_at p (x ∷ xs) zero e l = (and_parts (p x) (list_all p xs) e).0
all_at p (x ∷ xs) (suc k) e l = all_at p xs k (and_parts (p x) (list_all p xs) e).1 (omega (arith, l))

pub rising_at : (xs : List ℕ) → are_rising xs ≡ true → (i j : ℕ) → i ≤ j → j < length xs → get_or xs i 0 ≤ get_or xs j 0
rising_at [] e i j a b = absurd (omega (arith, b))
rising_at (x ∷ xs) e zero zero a b = omega arith
rising_at (x ∷ xs) e zero (suc j) a b = let l = ltb-true x (get_or xs j 0) (all_at (ltb x) xs j (and_parts (list_all (ltb x) xs) (are_rising xs) e).0 (omega (arith, b))) in omega (arith, l)
rising_at (x ∷ xs) e (suc i) zero a b = absurd (omega (arith, a))
rising_at (x ∷ xs) e (suc i) (suc j) a b = rising_at xs (and_parts (list_all (ltb x) xs) (are_rising xs) e).1 i j (omega (arith, a)) (omega (arith, b))

-- a search among rising members finds those that are listed
pub searched_is : (xs : List ℕ) (x : ℕ) (r : Result ℕ ℕ) → are_rising xs ≡ true → IsBinarySearchResult (λ y. nat_cmp y x) xs r → is_ok r ≡ listed x xs
searched_is xs x (Ok i) e h =
    let s = searched xs x (Ok i) h (rising_at xs e) in
    sym (list_any_at (λ y. eqb x y) xs i 0 s.0 (eq-eqb x (get_or xs i 0) (sym s.1)))
searched_is xs x (Err i) e h = sym (list_any_none (λ y. eqb x y) xs (λ k d l. subst (λ y. eqb x y ≡ false) (get_or_default xs k 0 d l) (apart k l)))
  where
    other : (u v : ℕ) → (u ≡ v → ⊥) → eqb u v ≡ false
    other u v d = grind (arith, nat_tests)

    apart : (k : ℕ) → k < length xs → eqb x (get_or xs k 0) ≡ false
    apart k l =
        let s = searched xs x (Err i) h (rising_at xs e) in
        tested (ltb k i)
        (λ t. let q = s.1 k (ltb-true k i t) in other x (get_or xs k 0) (λ z. omega (arith, q, z)))
        (λ t. let q = s.2 k (not_below k i t) l in other x (get_or xs k 0) (λ z. omega (arith, q, z)))
      where
        not_below : (a b : ℕ) → ltb a b ≡ false → b ≤ a
        not_below a b t = grind (arith, nat_tests)
