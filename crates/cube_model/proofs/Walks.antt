-- Walks over pairs: after so many rounds nothing new is reached, and signs go by the number of pairs.
use Rattle.std.specs.List.{list_any}
use Rattle.std.proofs.Common.{◌≡◌, ℕ, zero, suc, ◌+◌, ◌*◌, ◌<◌, ◌≤◌, ◌⊎◌, inl, inr, Bool, true, false, cond, ◌&&◌, ◌||◌, List, [], ◌∷◌, length, filter, ℤ, pos, negsuc, ◌+ℤ◌, refl, sym, ap, ap₂, ◌∙◌, subst, arith, eqb, eqb-true, ⊎_elim}
use Rattle.std.proofs.lemmas.Bool.{false≢true, and_parts, and_from, or_cases, or_left, or_right, eq-eqb}
use Rattle.std.proofs.lemmas.Int.{ints}
use Rattle.cube_model.specs.Cubes.{count_from, IsIn}
use Rattle.cube_model.specs.Protection.{listed}
use Rattle.cube_model.specs.Links.{is_joined, Reached, further, reached}
use Rattle.cube_model.specs.Twins.{by_walks}
use Rattle.cube_model.proofs.Members.{IsIn-filter, filter_has, count_from_has, IsIn-count_from}
use Rattle.cube_model.proofs.Sums.{length-count_from}

-- two tests that agree where it matters
pub any_has : {X : Type 0} (p : X → Bool) (x : X) (xs : List X) → IsIn x xs → p x ≡ true → list_any p xs ≡ true
any_has p x [] h e = absurd h
any_has p x (y ∷ ys) (inl yx) e = or_left (p y) (list_any p ys) (ap p yx ∙ e)
any_has p x (y ∷ ys) (inr k) e = or_right (p y) (list_any p ys) (any_has p x ys k e)

pub any_from : {X : Type 0} (p : X → Bool) (xs : List X) → list_any p xs ≡ true → (x : X) × (IsIn x xs) × (p x ≡ true)
any_from p [] e = absurd (false≢true e)
any_from {X} p (y ∷ ys) e = go (λ k. any_from p ys k) (or_cases (p y) (list_any p ys) e)
  where
    go : (list_any p ys ≡ true → (x : X) × (IsIn x ys) × (p x ≡ true)) → (p y ≡ true) ⊎ (list_any p ys ≡ true) → (x : X) × (IsIn x (y ∷ ys)) × (p x ≡ true)
    go again (inl l) = (y, inl refl, l)
    go again (inr k) = ((again k).0, inr (again k).1, (again k).2)

pub any_alike : {X : Type 0} (p q : X → Bool) (xs : List X) → ((x : X) → IsIn x xs → p x ≡ q x) → list_any p xs ≡ list_any q xs
any_alike p q [] h = refl
any_alike p q (x ∷ xs) h = ap₂ (λ a b. a || b) (h x (inl refl)) (any_alike p q xs (λ y k. h y (inr k)))

pub listed_from : (x : ℕ) (xs : List ℕ) → listed x xs ≡ true → IsIn x xs
listed_from x xs e = let r = any_from (λ y. eqb x y) xs e in subst (λ z. IsIn z xs) (sym (eqb-true x r.0 r.2)) r.1

pub listed_has : (x : ℕ) (xs : List ℕ) → IsIn x xs → listed x xs ≡ true
listed_has x xs h = any_has (λ y. eqb x y) x xs h (eq-eqb x x refl)

-- a Bool is what it is true for
pub same_truth : (a b : Bool) → (a ≡ true → b ≡ true) → (b ≡ true → a ≡ true) → a ≡ b
same_truth true b f g = sym (f refl)
same_truth false true f g = g refl
same_truth false false f g = refl

-- what a filter of all places lists
pub listed_filter : (n : ℕ) (test : ℕ → Bool) (q : ℕ) → q < n → listed q (filter test (count_from 0 n)) ≡ test q
listed_filter n test q l = same_truth (listed q (filter test (count_from 0 n))) (test q)
    (λ e. (IsIn-filter test q (count_from 0 n) (listed_from q (filter test (count_from 0 n)) e)).0)
    (λ e. listed_has q (filter test (count_from 0 n)) (filter_has test q (count_from 0 n) e (count_from_has q 0 n (omega arith) (omega arith))))

-- how many pass a test
pub tally : (ℕ → Bool) → List ℕ → ℕ
tally p [] = zero
tally p (x ∷ xs) = cond (p x) (suc (tally p xs)) (tally p xs)

pub tally_below : (p : ℕ → Bool) (xs : List ℕ) → tally p xs ≤ length xs
unfolding tally
tally_below p [] = omega arith
tally_below p (x ∷ xs) = go (p x) (tally_below p xs)
  where
    go : (b : Bool) → tally p xs ≤ length xs → cond b (suc (tally p xs)) (tally p xs) ≤ length (x ∷ xs)
    go true h = omega arith
    go false h = omega arith

pub tally_some : (p : ℕ → Bool) (x : ℕ) (xs : List ℕ) → IsIn x xs → p x ≡ true → 1 ≤ tally p xs
unfolding tally
tally_some p x [] h e = absurd h
tally_some p x (y ∷ ys) (inl yx) e = let z : p y ≡ true = ap p yx ∙ e in rw z (omega arith)
tally_some p x (y ∷ ys) (inr k) e = go (p y) (tally_some p x ys k e)
  where
    go : (b : Bool) → 1 ≤ tally p ys → 1 ≤ cond b (suc (tally p ys)) (tally p ys)
    go true h = omega arith
    go false h = h

-- more pass a weaker test, unless the two agree
pub tally_grows : (p q : ℕ → Bool) (xs : List ℕ) → ((x : ℕ) → IsIn x xs → p x ≡ true → q x ≡ true) → ((x : ℕ) → IsIn x xs → q x ≡ p x) × (tally p xs ≡ tally q xs) ⊎ (suc (tally p xs) ≤ tally q xs)
unfolding tally
tally_grows p q [] h = inl ((λ x k. absurd k), refl)
tally_grows p q (x ∷ xs) h = go (p x) (q x) refl refl (tally_grows p q xs (λ y k. h y (inr k)))
  where
    both : q x ≡ p x → ((y : ℕ) → IsIn y xs → q y ≡ p y) → (y : ℕ) → IsIn y (x ∷ xs) → q y ≡ p y
    both e f y (inl xy) = subst (λ z. q z ≡ p z) xy e
    both e f y (inr k) = f y k

    go : (a b : Bool) → p x ≡ a → q x ≡ b → ((y : ℕ) → IsIn y xs → q y ≡ p y) × (tally p xs ≡ tally q xs) ⊎ (suc (tally p xs) ≤ tally q xs) → ((y : ℕ) → IsIn y (x ∷ xs) → q y ≡ p y) × (cond a (suc (tally p xs)) (tally p xs) ≡ cond b (suc (tally q xs)) (tally q xs)) ⊎ (suc (cond a (suc (tally p xs)) (tally p xs)) ≤ cond b (suc (tally q xs)) (tally q xs))
    go true true e f (inl k) = inl (both (f ∙ sym e) k.0, ap suc k.1)
    go true true e f (inr k) = inr (omega arith)
    go true false e f k = absurd (false≢true (sym f ∙ h x (inl refl) e))
    go false true e f (inl k) = let z : tally p xs ≡ tally q xs = k.1 in inr (omega arith)
    go false true e f (inr k) = inr (omega arith)
    go false false e f (inl k) = inl (both (f ∙ sym e) k.0, k.1)
    go false false e f (inr k) = inr k

-- pairs of places
abbrev pub ArePlaces : ℕ → List (ℕ × ℕ) → Type 0
ArePlaces n ps = (e : ℕ × ℕ) → IsIn e ps → (e.0 < n) × (e.1 < n)

-- two lists list the same places
abbrev pub Alike : ℕ → List ℕ → List ℕ → Type 0
Alike n xs ys = (q : ℕ) → q < n → listed q xs ≡ listed q ys

pub joined_alike : (n : ℕ) (ps : List (ℕ × ℕ)) (q : ℕ) (xs ys : List ℕ) → ArePlaces n ps → Alike n xs ys → is_joined ps q xs ≡ is_joined ps q ys
joined_alike n ps q xs ys a h = any_alike _ _ ps (λ e k.
    ap₂ (λ x y. (eqb e.0 q && x) || (eqb e.1 q && y)) (h e.1 (a e k).1) (h e.0 (a e k).0))

module _ (n : ℕ) (ps : List (ℕ × ℕ)) (from : ℕ) (places : ArePlaces n ps) (below : from < n) where
  -- nothing new is reached in one more round
  IsSettled : Reached → Type 0
  IsSettled w = Alike n (further n ps w).evenly w.evenly × Alike n (further n ps w).oddly w.oddly

  settled_on : (w : Reached) → IsSettled w → IsSettled (further n ps w)
  unfolding IsSettled
  settled_on w s = (
    (λ q l. listed_filter n _ q l ∙ ap₂ (λ x y. x || y) (s.0 q l) (joined_alike n ps q (further n ps w).oddly w.oddly places s.1) ∙ sym (listed_filter n _ q l)),
    (λ q l. listed_filter n _ q l ∙ ap₂ (λ x y. x || y) (s.1 q l) (joined_alike n ps q (further n ps w).evenly w.evenly places s.0) ∙ sym (listed_filter n _ q l)),
  )

  size : Reached → ℕ
  size w = tally (λ q. listed q w.evenly) (count_from 0 n) + tally (λ q. listed q w.oddly) (count_from 0 n)

  size_below : (w : Reached) → size w ≤ 2 * n
  unfolding size
  size_below w =
      let a : tally (λ q. listed q w.evenly) (count_from 0 n) ≤ length (count_from 0 n) = tally_below (λ q. listed q w.evenly) (count_from 0 n) in
      let b : tally (λ q. listed q w.oddly) (count_from 0 n) ≤ length (count_from 0 n) = tally_below (λ q. listed q w.oddly) (count_from 0 n) in
      let e : length (count_from 0 n) ≡ n = length-count_from 0 n in omega arith

  below_of : (q : ℕ) → IsIn q (count_from 0 n) → q < n
  below_of q k = let b : q < 0 + n = (IsIn-count_from q 0 n k).1 in omega arith

  place_of : (q : ℕ) → q < n → IsIn q (count_from 0 n)
  place_of q l = count_from_has q 0 n (omega arith) (omega arith)

  grows : (w : Reached) → IsSettled w ⊎ (suc (size w) ≤ size (further n ps w))
  unfolding IsSettled size
  grows w = go
      (tally_grows (λ q. listed q w.evenly) (λ q. listed q (further n ps w).evenly) (count_from 0 n) (λ q k e. listed_filter n _ q (below_of q k) ∙ or_left (listed q w.evenly) (is_joined ps q w.oddly) e))
      (tally_grows (λ q. listed q w.oddly) (λ q. listed q (further n ps w).oddly) (count_from 0 n) (λ q k e. listed_filter n _ q (below_of q k) ∙ or_left (listed q w.oddly) (is_joined ps q w.evenly) e))
    where
      go : ((q : ℕ) → IsIn q (count_from 0 n) → listed q (further n ps w).evenly ≡ listed q w.evenly) × (tally (λ q. listed q w.evenly) (count_from 0 n) ≡ tally (λ q. listed q (further n ps w).evenly) (count_from 0 n)) ⊎ (suc (tally (λ q. listed q w.evenly) (count_from 0 n)) ≤ tally (λ q. listed q (further n ps w).evenly) (count_from 0 n))
          → ((q : ℕ) → IsIn q (count_from 0 n) → listed q (further n ps w).oddly ≡ listed q w.oddly) × (tally (λ q. listed q w.oddly) (count_from 0 n) ≡ tally (λ q. listed q (further n ps w).oddly) (count_from 0 n)) ⊎ (suc (tally (λ q. listed q w.oddly) (count_from 0 n)) ≤ tally (λ q. listed q (further n ps w).oddly) (count_from 0 n))
          → IsSettled w ⊎ (suc (size w) ≤ size (further n ps w))
      go (inl a) (inl b) = inl ((λ q l. a.0 q (place_of q l)), (λ q l. b.0 q (place_of q l)))
      go (inl a) (inr b) = let z : tally (λ q. listed q w.evenly) (count_from 0 n) ≡ tally (λ q. listed q (further n ps w).evenly) (count_from 0 n) = a.1 in inr (omega arith)
      go (inr a) (inl b) = let z : tally (λ q. listed q w.oddly) (count_from 0 n) ≡ tally (λ q. listed q (further n ps w).oddly) (count_from 0 n) = b.1 in inr (omega arith)
      go (inr a) (inr b) = inr (omega arith)

  rounds : (k : ℕ) → IsSettled (reached n ps from k) ⊎ (suc k ≤ size (reached n ps from k))
  unfolding size
  rounds zero = let a : 1 ≤ tally (λ q. listed q (from ∷ [])) (count_from 0 n) = tally_some (λ q. listed q (from ∷ [])) from (count_from 0 n) (place_of from below) (listed_has from (from ∷ []) (inl refl)) in inr (omega arith)
  rounds (suc k) = go (rounds k) (grows (reached n ps from k))
    where
      go : IsSettled (reached n ps from k) ⊎ (suc k ≤ size (reached n ps from k)) → IsSettled (reached n ps from k) ⊎ (suc (size (reached n ps from k)) ≤ size (further n ps (reached n ps from k))) → IsSettled (reached n ps from (suc k)) ⊎ (suc (suc k) ≤ size (reached n ps from (suc k)))
      go (inl s) g = inl (settled_on (reached n ps from k) s)
      go (inr l) (inl s) = inl (settled_on (reached n ps from k) s)
      go (inr l) (inr g) = inr (omega arith)

  -- so many rounds suffice
  settled : IsSettled (reached n ps from (2 * n))
  settled = ⊎_elim (λ s. s) (λ l. let b : size (reached n ps from (2 * n)) ≤ 2 * n = size_below (reached n ps from (2 * n)) in absurd (omega arith)) (rounds (2 * n))

  joined_by : (e : ℕ × ℕ) (xs : List ℕ) → IsIn e ps → listed e.0 xs ≡ true → is_joined ps e.1 xs ≡ true
  joined_by e xs k l = any_has _ e ps k (or_right (eqb e.0 e.1 && listed e.1 xs) (eqb e.1 e.1 && listed e.0 xs) (and_from (eqb e.1 e.1) (listed e.0 xs) (eq-eqb e.1 e.1 refl) l))

  joined_back : (e : ℕ × ℕ) (xs : List ℕ) → IsIn e ps → listed e.1 xs ≡ true → is_joined ps e.0 xs ≡ true
  joined_back e xs k l = any_has _ e ps k (or_left (eqb e.0 e.0 && listed e.1 xs) (eqb e.1 e.0 && listed e.0 xs) (and_from (eqb e.0 e.0) (listed e.1 xs) (eq-eqb e.0 e.0 refl) l))

  -- a pair leads from an even end to an odd one, and back
  pub even_odd : (e : ℕ × ℕ) → IsIn e ps → listed e.0 (reached n ps from (2 * n)).evenly ≡ true → listed e.1 (reached n ps from (2 * n)).oddly ≡ true
  unfolding IsSettled
  even_odd e k l = sym (settled.1 e.1 (places e k).1) ∙ listed_filter n _ e.1 (places e k).1 ∙ or_right (listed e.1 (reached n ps from (2 * n)).oddly) _ (joined_by e (reached n ps from (2 * n)).evenly k l)

  pub odd_even : (e : ℕ × ℕ) → IsIn e ps → listed e.0 (reached n ps from (2 * n)).oddly ≡ true → listed e.1 (reached n ps from (2 * n)).evenly ≡ true
  unfolding IsSettled
  odd_even e k l = sym (settled.0 e.1 (places e k).1) ∙ listed_filter n _ e.1 (places e k).1 ∙ or_right (listed e.1 (reached n ps from (2 * n)).evenly) _ (joined_by e (reached n ps from (2 * n)).oddly k l)

  pub even_odd_back : (e : ℕ × ℕ) → IsIn e ps → listed e.1 (reached n ps from (2 * n)).evenly ≡ true → listed e.0 (reached n ps from (2 * n)).oddly ≡ true
  unfolding IsSettled
  even_odd_back e k l = sym (settled.1 e.0 (places e k).0) ∙ listed_filter n _ e.0 (places e k).0 ∙ or_right (listed e.0 (reached n ps from (2 * n)).oddly) _ (joined_back e (reached n ps from (2 * n)).evenly k l)

  pub odd_even_back : (e : ℕ × ℕ) → IsIn e ps → listed e.1 (reached n ps from (2 * n)).oddly ≡ true → listed e.0 (reached n ps from (2 * n)).evenly ≡ true
  unfolding IsSettled
  odd_even_back e k l = sym (settled.0 e.0 (places e k).0) ∙ listed_filter n _ e.0 (places e k).0 ∙ or_right (listed e.0 (reached n ps from (2 * n)).evenly) _ (joined_back e (reached n ps from (2 * n)).oddly k l)

  -- the start stays an even end
  pub start_even : (k : ℕ) → listed from (reached n ps from k).evenly ≡ true
  start_even zero = listed_has from (from ∷ []) (inl refl)
  start_even (suc k) = listed_filter n _ from below ∙ or_left (listed from (reached n ps from k).evenly) (is_joined ps from (reached n ps from k).oddly) (start_even k)

-- a place that a pair joins to some of these has the opposite sign of one of them
pub joined_sign : (s : ℕ → ℤ) (ps : List (ℕ × ℕ)) (q : ℕ) (xs : List ℕ) → ((e : ℕ × ℕ) → IsIn e ps → s e.0 +ℤ s e.1 ≡ pos 0) → is_joined ps q xs ≡ true → (x : ℕ) × (IsIn x xs) × (s q +ℤ s x ≡ pos 0)
joined_sign s ps q xs h j = go (any_from (λ e. (eqb e.0 q && listed e.1 xs) || (eqb e.1 q && listed e.0 xs)) ps j)
  where
    go : (e : ℕ × ℕ) × (IsIn e ps) × (((eqb e.0 q && listed e.1 xs) || (eqb e.1 q && listed e.0 xs)) ≡ true) → (x : ℕ) × (IsIn x xs) × (s q +ℤ s x ≡ pos 0)
    go r = ⊎_elim
        (λ a. let p = and_parts (eqb r.0.0 q) (listed r.0.1 xs) a in (r.0.1, listed_from r.0.1 xs p.1, ap (λ z. s z +ℤ s r.0.1) (sym (eqb-true r.0.0 q p.0)) ∙ h r.0 r.1))
        (λ a. let p = and_parts (eqb r.0.1 q) (listed r.0.0 xs) a in (r.0.0, listed_from r.0.0 xs p.1, ap (λ z. s z +ℤ s r.0.0) (sym (eqb-true r.0.1 q p.0)) ∙ swap (s r.0.1) (s r.0.0) ∙ h r.0 r.1))
        (or_cases (eqb r.0.0 q && listed r.0.1 xs) (eqb r.0.1 q && listed r.0.0 xs) r.2)
      where
        swap : (a b : ℤ) → a +ℤ b ≡ b +ℤ a
        swap a b = omega (arith, ints)

-- what walks say of signs that suit the pairs
pub record Signed (s : ℕ → ℤ) (from : ℕ) (w : Reached) : Type 0 where
  even : (q : ℕ) → IsIn q w.evenly → s q ≡ s from
  odd : (q : ℕ) → IsIn q w.oddly → s q +ℤ s from ≡ pos 0

pub signed : (n : ℕ) (ps : List (ℕ × ℕ)) (s : ℕ → ℤ) (from k : ℕ) → ((e : ℕ × ℕ) → IsIn e ps → s e.0 +ℤ s e.1 ≡ pos 0) → Signed s from (reached n ps from k)
signed n ps s from zero h = record { even = only; odd = λ q k. absurd k }
  where
    only : (q : ℕ) → IsIn q (from ∷ []) → s q ≡ s from
    only q (inl e) = ap s (sym e)
    only q (inr k) = absurd k
signed n ps s from (suc k) h = go (reached n ps from k) (signed n ps s from k h)
  where
    flip : (a b c : ℤ) → a +ℤ b ≡ pos 0 → b +ℤ c ≡ pos 0 → a ≡ c
    flip a b c p q = omega (arith, ints)

    go : (w : Reached) → Signed s from w → Signed s from (further n ps w)
    go w i = record {
      even = λ q m. let t = (IsIn-filter (λ q. listed q w.evenly || is_joined ps q w.oddly) q (count_from 0 n) m).0 in ⊎_elim
          (λ a. i.even q (listed_from q w.evenly a))
          (λ a. let j = joined_sign s ps q w.oddly h a in flip (s q) (s j.0) (s from) j.2 (i.odd j.0 j.1))
          (or_cases (listed q w.evenly) (is_joined ps q w.oddly) t);
      odd = λ q m. let t = (IsIn-filter (λ q. listed q w.oddly || is_joined ps q w.evenly) q (count_from 0 n) m).0 in ⊎_elim
          (λ a. i.odd q (listed_from q w.oddly a))
          (λ a. let j = joined_sign s ps q w.evenly h a in ap (λ z. s q +ℤ z) (sym (i.even j.0 j.1)) ∙ j.2)
          (or_cases (listed q w.oddly) (is_joined ps q w.evenly) t);
    }

pub even_sign : (n : ℕ) (ps : List (ℕ × ℕ)) (s : ℕ → ℤ) (from k q : ℕ) → ((e : ℕ × ℕ) → IsIn e ps → s e.0 +ℤ s e.1 ≡ pos 0) → listed q (reached n ps from k).evenly ≡ true → s q ≡ s from
even_sign n ps s from k q h a = let w = signed n ps s from k h in w.even q (listed_from q (reached n ps from k).evenly a)

pub odd_sign : (n : ℕ) (ps : List (ℕ × ℕ)) (s : ℕ → ℤ) (from k q : ℕ) → ((e : ℕ × ℕ) → IsIn e ps → s e.0 +ℤ s e.1 ≡ pos 0) → listed q (reached n ps from k).oddly ≡ true → s q +ℤ s from ≡ pos 0
odd_sign n ps s from k q h a = let w = signed n ps s from k h in w.odd q (listed_from q (reached n ps from k).oddly a)

-- no place is reached both ways, where some list that suits the pairs is not 0 at the start
pub one_way : (n : ℕ) (ps : List (ℕ × ℕ)) (s : ℕ → ℤ) (from k q : ℕ) → ((e : ℕ × ℕ) → IsIn e ps → s e.0 +ℤ s e.1 ≡ pos 0) → (s from ≡ pos 0 → ⊥) → listed q (reached n ps from k).evenly ≡ true → listed q (reached n ps from k).oddly ≡ true → ⊥
one_way n ps s from k q h d a b =
    let w = signed n ps s from k h in
    d (twice (s q) (s from) (w.even q (listed_from q (reached n ps from k).evenly a)) (w.odd q (listed_from q (reached n ps from k).oddly b)))
  where
    twice : (x y : ℤ) → x ≡ y → x +ℤ y ≡ pos 0 → y ≡ pos 0
    twice x y p q = omega (arith, ints)

-- a place at which such a list is 0 is not reached
pub unreached : (n : ℕ) (ps : List (ℕ × ℕ)) (s : ℕ → ℤ) (from k q : ℕ) → ((e : ℕ × ℕ) → IsIn e ps → s e.0 +ℤ s e.1 ≡ pos 0) → (s from ≡ pos 0 → ⊥) → s q ≡ pos 0 → by_walks (reached n ps from k) q ≡ pos 0
unreached n ps s from k q h d z = go (listed q (reached n ps from k).evenly) (listed q (reached n ps from k).oddly) refl refl
  where
    w : Signed s from (reached n ps from k)
    w = signed n ps s from k h

    odd_zero : (x y : ℤ) → x ≡ pos 0 → x +ℤ y ≡ pos 0 → y ≡ pos 0
    odd_zero x y p q = omega (arith, ints)

    go : (a b : Bool) → listed q (reached n ps from k).evenly ≡ a → listed q (reached n ps from k).oddly ≡ b → cond a (pos 1) (cond b (negsuc 0) (pos 0)) ≡ pos 0
    go true b p r = absurd (d (sym (w.even q (listed_from q (reached n ps from k).evenly p)) ∙ z))
    go false true p r = absurd (d (odd_zero (s q) (s from) z (w.odd q (listed_from q (reached n ps from k).oddly r))))
    go false false p r = refl

-- where no place is reached both ways, the changes at the two places of a pair add to 0
pub walks_balance_if : (n : ℕ) (ps : List (ℕ × ℕ)) (from : ℕ) (e : ℕ × ℕ) → ArePlaces n ps → from < n → ((q : ℕ) → listed q (reached n ps from (2 * n)).evenly ≡ true → listed q (reached n ps from (2 * n)).oddly ≡ true → ⊥) → IsIn e ps → by_walks (reached n ps from (2 * n)) e.0 +ℤ by_walks (reached n ps from (2 * n)) e.1 ≡ pos 0
walks_balance_if n ps from e places below not_both k = go (listed e.0 E) (listed e.1 E) (listed e.0 O) (listed e.1 O) refl refl refl refl
  where
    E : List ℕ
    E = (reached n ps from (2 * n)).evenly

    O : List ℕ
    O = (reached n ps from (2 * n)).oddly

    go : (a b c d : Bool) → listed e.0 E ≡ a → listed e.1 E ≡ b → listed e.0 O ≡ c → listed e.1 O ≡ d → cond a (pos 1) (cond c (negsuc 0) (pos 0)) +ℤ cond b (pos 1) (cond d (negsuc 0) (pos 0)) ≡ pos 0
    go true true c d p q r t = absurd (not_both e.1 q (even_odd n ps from places below e k p))
    go true false c true p q r t = refl
    go true false c false p q r t = absurd (false≢true (sym t ∙ even_odd n ps from places below e k p))
    go false true true d p q r t = refl
    go false true false d p q r t = absurd (false≢true (sym r ∙ even_odd_back n ps from places below e k q))
    go false false true d p q r t = absurd (false≢true (sym q ∙ odd_even n ps from places below e k r))
    go false false false true p q r t = absurd (false≢true (sym p ∙ odd_even_back n ps from places below e k t))
    go false false false false p q r t = refl

-- so it is where some list that suits the pairs is not 0 at the start
pub walks_balance : (n : ℕ) (ps : List (ℕ × ℕ)) (s : ℕ → ℤ) (from : ℕ) (e : ℕ × ℕ) → ArePlaces n ps → from < n → ((e : ℕ × ℕ) → IsIn e ps → s e.0 +ℤ s e.1 ≡ pos 0) → (s from ≡ pos 0 → ⊥) → IsIn e ps → by_walks (reached n ps from (2 * n)) e.0 +ℤ by_walks (reached n ps from (2 * n)) e.1 ≡ pos 0
walks_balance n ps s from e places below h d k = walks_balance_if n ps from e places below (λ q a b. one_way n ps s from (2 * n) q h d a b) k
