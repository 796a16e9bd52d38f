-- Walks over lists: what the rest of a list still gives.
use Rattle.std.specs.List.{list_any, flat_map}
use Rattle.std.proofs.Common.{◌≡◌, ℕ, zero, suc, ◌+◌, ◌<◌, ◌≤◌, ◌⊎◌, inl, inr, Bool, true, false, cond, ◌||◌, List, [], ◌∷◌, ◌++◌, length, filter, find, drop, get_or, Option, Some, None, refl, sym, ap, ◌∙◌, arith}
use Rattle.std.proofs.lemmas.List.{drop_more}
use Rattle.cube_model.specs.Cubes.{count_from}
use Rattle.cube_model.proofs.Members.{count_from_has}
use Rattle.cube_model.proofs.Walks.{any_has}

pub here : {X : Type 0} (xs : List X) (i : ℕ) (x : X) → i < length xs → x ≡ get_or xs i x → drop i xs ≡ x ∷ drop (i + 1) xs
here xs i x l is = drop_more xs i x l ∙ ap (λ y. y ∷ drop (i + 1) xs) (sym is)

-- ---- a search

pub find_skip : {X : Type 0} (f : X → Bool) (xs : List X) (i : ℕ) (x : X) (all : Option X) → i < length xs → x ≡ get_or xs i x → f x ≡ false → find f (drop i xs) ≡ all → find f (drop (i + 1) xs) ≡ all
find_skip f xs i x all l is e h = sym (ap (find f) (here xs i x l is) ∙ ap (λ (b : Bool). cond b (Some x) (find f (drop (i + 1) xs))) e) ∙ h

pub find_hit : {X : Type 0} (f : X → Bool) (xs : List X) (i : ℕ) (x : X) (all : Option X) → i < length xs → x ≡ get_or xs i x → f x ≡ true → find f (drop i xs) ≡ all → Some x ≡ all
find_hit f xs i x all l is e h = sym (ap (find f) (here xs i x l is) ∙ ap (λ (b : Bool). cond b (Some x) (find f (drop (i + 1) xs))) e) ∙ h

-- ---- a test of some element

pub any_skip : {X : Type 0} (f : X → Bool) (xs : List X) (i : ℕ) (x : X) (all : Bool) → i < length xs → x ≡ get_or xs i x → f x ≡ false → list_any f (drop i xs) ≡ all → list_any f (drop (i + 1) xs) ≡ all
any_skip f xs i x all l is e h = sym (ap (list_any f) (here xs i x l is) ∙ ap (λ (b : Bool). b || list_any f (drop (i + 1) xs)) e) ∙ h

pub any_hit : {X : Type 0} (f : X → Bool) (xs : List X) (i : ℕ) (x : X) (all : Bool) → i < length xs → x ≡ get_or xs i x → f x ≡ true → list_any f (drop i xs) ≡ all → true ≡ all
any_hit f xs i x all l is e h = sym (ap (list_any f) (here xs i x l is) ∙ ap (λ (b : Bool). b || list_any f (drop (i + 1) xs)) e) ∙ h

-- ---- a search through lists, one for each element

find_append : {Y : Type 0} (p : Y → Bool) (xs ys : List Y) → find p xs ≡ None → find p (xs ++ ys) ≡ find p ys
find_append p [] ys e = refl
find_append p (x ∷ xs) ys e = go (p x) e (find_append p xs ys)
  where
    go : (b : Bool) → cond b (Some x) (find p xs) ≡ None → (find p xs ≡ None → find p (xs ++ ys) ≡ find p ys) → cond b (Some x) (find p (xs ++ ys)) ≡ find p ys
    go true q r = absurd (cc)
    go false q r = r q

find_front : {Y : Type 0} (p : Y → Bool) (xs ys : List Y) (y : Y) → find p xs ≡ Some y → find p (xs ++ ys) ≡ Some y
find_front p [] ys y e = absurd (cc)
find_front p (x ∷ xs) ys y e = go (p x) e (find_front p xs ys y)
  where
    go : (b : Bool) → cond b (Some x) (find p xs) ≡ Some y → (find p xs ≡ Some y → find p (xs ++ ys) ≡ Some y) → cond b (Some x) (find p (xs ++ ys)) ≡ Some y
    go true q r = q
    go false q r = r q

pub walk_skip : {X Y : Type 0} (p : Y → Bool) (f : X → List Y) (xs : List X) (i : ℕ) (x : X) (all : Option Y) → i < length xs → x ≡ get_or xs i x → find p (f x) ≡ None → find p (flat_map f (drop i xs)) ≡ all → find p (flat_map f (drop (i + 1) xs)) ≡ all
walk_skip p f xs i x all l is e h = sym (ap (λ zs. find p (flat_map f zs)) (here xs i x l is) ∙ find_append p (f x) (flat_map f (drop (i + 1) xs)) e) ∙ h

pub walk_hit : {X Y : Type 0} (p : Y → Bool) (f : X → List Y) (xs : List X) (i : ℕ) (x : X) (y : Y) (all : Option Y) → i < length xs → x ≡ get_or xs i x → find p (f x) ≡ Some y → find p (flat_map f (drop i xs)) ≡ all → Some y ≡ all
walk_hit p f xs i x y all l is e h = sym (ap (λ zs. find p (flat_map f zs)) (here xs i x l is) ∙ find_front p (f x) (flat_map f (drop (i + 1) xs)) y e) ∙ h

-- the same through the elements that pass a test
pub pass_over : {X : Type 0} (t : X → Bool) (xs : List X) (i : ℕ) (x : X) → i < length xs → x ≡ get_or xs i x → t x ≡ false → filter t (drop i xs) ≡ filter t (drop (i + 1) xs)
pass_over t xs i x l is e = ap (filter t) (here xs i x l is) ∙ ap (λ (b : Bool). cond b (x ∷ filter t (drop (i + 1) xs)) (filter t (drop (i + 1) xs))) e

pub take_in : {X : Type 0} (t : X → Bool) (xs : List X) (i : ℕ) (x : X) → i < length xs → x ≡ get_or xs i x → t x ≡ true → filter t (drop i xs) ≡ x ∷ filter t (drop (i + 1) xs)
take_in t xs i x l is e = ap (filter t) (here xs i x l is) ∙ ap (λ (b : Bool). cond b (x ∷ filter t (drop (i + 1) xs)) (filter t (drop (i + 1) xs))) e

pub kept_skip : {X Y : Type 0} (p : Y → Bool) (f : X → List Y) (t : X → Bool) (xs : List X) (i : ℕ) (x : X) (all : Option Y) → i < length xs → x ≡ get_or xs i x → t x ≡ true → find p (f x) ≡ None → find p (flat_map f (filter t (drop i xs))) ≡ all → find p (flat_map f (filter t (drop (i + 1) xs))) ≡ all
kept_skip p f t xs i x all l is w e h = sym (ap (λ zs. find p (flat_map f zs)) (take_in t xs i x l is w) ∙ find_append p (f x) (flat_map f (filter t (drop (i + 1) xs))) e) ∙ h

pub kept_hit : {X Y : Type 0} (p : Y → Bool) (f : X → List Y) (t : X → Bool) (xs : List X) (i : ℕ) (x : X) (y : Y) (all : Option Y) → i < length xs → x ≡ get_or xs i x → t x ≡ true → find p (f x) ≡ Some y → find p (flat_map f (filter t (drop i xs))) ≡ all → Some y ≡ all
kept_hit p f t xs i x y all l is w e h = sym (ap (λ zs. find p (flat_map f zs)) (take_in t xs i x l is w) ∙ find_front p (f x) (flat_map f (filter t (drop (i + 1) xs))) y e) ∙ h

-- ---- numbers in order

pub same_or_above : (s k : ℕ) → s ≤ k → (s ≡ k) ⊎ (suc s ≤ k)
same_or_above s k a = grind arith

pub first_number : (p : ℕ → Bool) (s n k : ℕ) → s ≤ k → k < s + n → ((j : ℕ) → j < k → p j ≡ false) → p k ≡ true → find p (count_from s n) ≡ Some k
first_number p s zero k a b none e = absurd (omega (arith, a, b))
first_number p s (suc n) k a b none e = go (same_or_above s k a) (λ l. first_number p (suc s) n k l (omega (arith, b)) none e)
  where
    go : (s ≡ k) ⊎ (suc s ≤ k) → (suc s ≤ k → find p (count_from (suc s) n) ≡ Some k) → find p (count_from s (suc n)) ≡ Some k
    go (inl q) again = ap (λ (b : Bool). cond b (Some s) (find p (count_from (suc s) n))) (ap p q ∙ e) ∙ ap Some q
    go (inr l) again = ap (λ (b : Bool). cond b (Some s) (find p (count_from (suc s) n))) (none s (omega (arith, l))) ∙ again l

pub no_number : (p : ℕ → Bool) (s n : ℕ) → ((j : ℕ) → j < s + n → p j ≡ false) → find p (count_from s n) ≡ None
no_number p s zero none = refl
no_number p s (suc n) none = ap (λ (b : Bool). cond b (Some s) (find p (count_from (suc s) n))) (none s (omega arith)) ∙ no_number p (suc s) n (λ j l. none j (omega (arith, l)))

pub some_number : (p : ℕ → Bool) (n k : ℕ) → k < n → p k ≡ true → list_any p (count_from 0 n) ≡ true
some_number p n k l e = any_has p k (count_from 0 n) (count_from_has k 0 n (omega arith) (omega (arith, l))) e

pub none_of : (p : ℕ → Bool) (s n : ℕ) → ((j : ℕ) → j < s + n → p j ≡ false) → list_any p (count_from s n) ≡ false
none_of p s zero none = refl
none_of p s (suc n) none = ap (λ (b : Bool). b || list_any p (count_from (suc s) n)) (none s (omega arith)) ∙ none_of p (suc s) n (λ j l. none j (omega (arith, l)))
