-- Columns: each stands once in the header, and a record's field in it is the one that was written.
use Rattle.std.specs.Str.{bytes_eq}
use Rattle.std.specs.List.{zip}
use Rattle.std.specs.Prelude.{count_by}
use Rattle.std.proofs.Common.{◌≡◌, ◌≢◌, inl, inr, ℕ, zero, suc, ◌+◌, ◌<◌, Bool, true, false, cond, List, [], ◌∷◌, ◌++◌, length, map, flat_map, get_or, Some, refl, sym, ap, ap₂, ◌∙◌, arith}
use Rattle.std.proofs.lemmas.Bool.{lt-ltb}
use Rattle.std.proofs.lemmas.Slice.Eq.{bytes_eq-Decides}
use Rattle.std.proofs.lemmas.List.{get_or-append-add}
use Rattle.std.proofs.lemmas.List.Sums.{sum_by-cons}
use Rattle.csv.specs.Records.{field_at}
use Rattle.cube_model.specs.Cubes.{place_of, count_from, IsIn}
use Rattle.cube_model.specs.Dims.{AreDistinct, found}
use Rattle.cube_model.proofs.DimsFacts.{place_of-own, place_of-position}
use Rattle.cube_model.proofs.Members.{tested}

-- the number of a name is its place
pub found_own : (xs : List (List ℕ)) (i : ℕ) → AreDistinct xs → i < length xs → found (get_or xs i []) xs ≡ Some i
found_own xs i once l =
    let at = sym (place_of-position (get_or xs i []) xs) ∙ place_of-own xs once i l in
    rw (at, lt-ltb i (length xs) l) refl

-- names at two places differ
pub apart : (xs : List (List ℕ)) (i j : ℕ) → AreDistinct xs → i < length xs → j < length xs → i ≢ j → bytes_eq (get_or xs i []) (get_or xs j []) ≡ false
apart xs i j once l k d = tested (bytes_eq (get_or xs i []) (get_or xs j []))
    (λ t. absurd (d (sym (place_of-own xs once i l) ∙ ap (λ (x : List ℕ). place_of x xs) ((bytes_eq-Decides (get_or xs i []) (get_or xs j [])).0 t) ∙ place_of-own xs once j k)))
    (λ f. f)

pub field_there : (fields : List (List ℕ)) (i : ℕ) → i < length fields → field_at fields i ≡ Some (get_or fields i [])
unfolding field_at
field_there [] i l = absurd (omega (arith, l))
field_there (f ∷ fs) zero l = refl
field_there (f ∷ fs) (suc i) l = field_there fs i (omega (arith, l))

-- what stands in a list stands at a place of it
pub at_some : {X : Type 0} (d x : X) (xs : List X) → IsIn x xs → (i : ℕ) × (i < length xs) × (get_or xs i d ≡ x)
at_some d x [] h = absurd h
at_some d x (y ∷ ys) (inl e) = (0, omega arith, e)
at_some d x (y ∷ ys) (inr h) = let rest = at_some d x ys h in (suc rest.0, omega (arith, rest.1), rest.2)

pub zipped : (xs ys : List (List ℕ)) (e : List ℕ × List ℕ) → length ys ≡ length xs → IsIn e (zip xs ys) → (i : ℕ) × (i < length xs) × (e ≡ (get_or xs i [], get_or ys i []))
zipped [] ys e same h = absurd h
zipped (x ∷ xs) [] e same h = absurd h
zipped (x ∷ xs) (y ∷ ys) e same (inl p) = (0, omega arith, sym p)
zipped (x ∷ xs) (y ∷ ys) e same (inr h) = let rest = zipped xs ys e (omega (arith, same)) h in (suc rest.0, omega (arith, rest.1), rest.2)

-- lists of nothing
pub nothing : {X Y : Type 0} (f : X → List Y) (xs : List X) → ((x : X) → IsIn x xs → f x ≡ []) → flat_map f xs ≡ []
nothing f [] h = refl
nothing f (x ∷ xs) h = ap₂ (λ a b. a ++ b) (h x (inl refl)) (nothing f xs (λ y k. h y (inr k)))

-- a name that stands once is counted once
none_counted : (p : List ℕ → Bool) (xs : List (List ℕ)) → ((i : ℕ) → i < length xs → p (get_or xs i []) ≡ false) → count_by p xs ≡ 0
none_counted p [] h = refl
none_counted p (x ∷ xs) h = sum_by-cons (λ y. cond (p y) 1 0) x xs ∙ ap₂ (λ (b : Bool) (n : ℕ). cond b 1 0 + n) (h 0 (omega arith)) (none_counted p xs (λ i l. h (suc i) (omega (arith, l))))

pub one_counted : (p : List ℕ → Bool) (xs : List (List ℕ)) (k : ℕ) → k < length xs → p (get_or xs k []) ≡ true → ((i : ℕ) → i < length xs → i ≢ k → p (get_or xs i []) ≡ false) → count_by p xs ≡ 1
one_counted p [] k l here none = absurd (omega (arith, l))
one_counted p (x ∷ xs) zero l here none = sum_by-cons (λ y. cond (p y) 1 0) x xs ∙ ap₂ (λ (b : Bool) (n : ℕ). cond b 1 0 + n) here (none_counted p xs (λ i l. none (suc i) (omega (arith, l)) (omega arith)))
one_counted p (x ∷ xs) (suc k) l here none = sum_by-cons (λ y. cond (p y) 1 0) x xs ∙ ap₂ (λ (b : Bool) (n : ℕ). cond b 1 0 + n) (none 0 (omega arith) (omega arith)) (one_counted p xs k (omega (arith, l)) here (λ i l d. none (suc i) (omega (arith, l)) (omega (arith, d))))

-- ---- places in lists

pub in_front : {X : Type 0} (xs ys : List X) (i : ℕ) (d : X) → i < length xs → get_or (xs ++ ys) i d ≡ get_or xs i d
in_front [] ys i d l = absurd (omega (arith, l))
in_front (x ∷ xs) ys zero d l = refl
in_front (x ∷ xs) ys (suc i) d l = in_front xs ys i d (omega (arith, l))

pub behind : {X : Type 0} (xs ys : List X) (i k : ℕ) (d : X) → k ≡ length xs + i → get_or (xs ++ ys) k d ≡ get_or ys i d
behind xs ys i k d e = ap (λ (n : ℕ). get_or (xs ++ ys) n d) e ∙ get_or-append-add xs ys i d

pub mapped : {X Y : Type 0} (f : X → Y) (xs : List X) (i : ℕ) (d : X) (e : Y) → i < length xs → get_or (map f xs) i e ≡ f (get_or xs i d)
mapped f [] i d e l = absurd (omega (arith, l))
mapped f (x ∷ xs) zero d e l = refl
mapped f (x ∷ xs) (suc i) d e l = mapped f xs i d e (omega (arith, l))

pub numbered : (a n i : ℕ) → i < n → get_or (count_from a n) i 0 ≡ a + i
numbered a zero i l = absurd (omega (arith, l))
numbered a (suc n) zero l = omega arith
numbered a (suc n) (suc i) l = let e = numbered (suc a) n i (omega (arith, l)) in omega (arith, e)

-- a list is that of its elements by number
pub by_number : {X Y : Type 0} (f : X → Y) (xs : List X) (d : X) (e : Y) (ys : List Y) → length ys ≡ length xs → ((i : ℕ) → i < length xs → get_or ys i e ≡ f (get_or xs i d)) → map f xs ≡ ys
by_number f [] d e [] same h = refl
by_number f [] d e (y ∷ ys) same h = absurd (omega (arith, same))
by_number f (x ∷ xs) d e [] same h = absurd (omega (arith, same))
by_number f (x ∷ xs) d e (y ∷ ys) same h = ap₂ (λ a b. a ∷ b) (sym (h 0 (omega arith))) (by_number f xs d e ys (omega (arith, same)) (λ i l. h (suc i) (omega (arith, l))))

pub in_list : {X : Type 0} (xs : List X) (i : ℕ) (d : X) → i < length xs → IsIn (get_or xs i d) xs
in_list [] i d l = absurd (omega (arith, l))
in_list (x ∷ xs) zero d l = inl refl
in_list (x ∷ xs) (suc i) d l = inr (in_list xs i d (omega (arith, l)))
