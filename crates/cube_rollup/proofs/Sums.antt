-- Sums over places, key by key.
use Rattle.std.specs.List.{sum_by}
use Rattle.std.proofs.Common.{◌≡◌, ℕ, suc, ◌+◌, ◌<◌, inl, inr, Bool, true, false, cond, List, [], ◌∷◌, length, filter, get_or, ℤ, pos, ◌+ℤ◌, refl, sym, ap, ap₂, ◌∙◌, arith, true≢false}
use Rattle.std.proofs.lemmas.Int.{ints}
use Rattle.std.proofs.lemmas.List.Sums.{sum_by-cons}
use Rattle.cube_model.specs.Cubes.{same, before, count_from, IsIn, IsIncreasing}
use Rattle.cube_model.specs.Requests.{total}
use Rattle.cube_model.proofs.Boxes.{before_not_itself}
use Rattle.cube_model.proofs.Members.{same_eq, same_refl, tested}
use Rattle.cube_model.proofs.Sums.{gather}
use Rattle.cube_core.proofs.Grouped.{all_later}

-- the sum of a function over keys
abbrev pub over : (List ℕ → ℤ) → List (List ℕ) → ℤ
over h [] = pos 0
over h (k ∷ ks) = h k +ℤ over h ks

-- the sum of values over the places that have a key
abbrev pub at_key : (ℕ → List ℕ) → (ℕ → ℤ) → List ℕ → List ℕ → ℤ
at_key f v xs k = gather v (filter (λ i. same (f i) k) xs)

over_zero : (f : ℕ → List ℕ) (v : ℕ → ℤ) (ks : List (List ℕ)) → over (at_key f v []) ks ≡ pos 0
over_zero f v [] = refl
over_zero f v (k ∷ ks) = ap (λ z. pos 0 +ℤ z) (over_zero f v ks)

-- a place adds nothing to other keys than its own
untouched : (f : ℕ → List ℕ) (v : ℕ → ℤ) (x : ℕ) (xs : List ℕ) (T : List ℕ → Bool) (ks : List (List ℕ)) → ((k : List ℕ) → IsIn k ks → same (f x) k ≡ false)
    → over (at_key f v (x ∷ xs)) (filter T ks) ≡ over (at_key f v xs) (filter T ks)
untouched f v x xs T [] h = refl
untouched f v x xs T (k ∷ ks) h = go (T k) (h k (inl refl)) (untouched f v x xs T ks (λ j m. h j (inr m)))
  where
    go : (b : Bool) → same (f x) k ≡ false → over (at_key f v (x ∷ xs)) (filter T ks) ≡ over (at_key f v xs) (filter T ks)
        → over (at_key f v (x ∷ xs)) (cond b (k ∷ filter T ks) (filter T ks)) ≡ over (at_key f v xs) (cond b (k ∷ filter T ks) (filter T ks))
    go true e r = ap₂ (λ a b. a +ℤ b) (ap (λ c. gather v (cond c (x ∷ filter (λ i. same (f i) k) xs) (filter (λ i. same (f i) k) xs))) e) r
    go false e r = r

apart : (k j : List ℕ) (ks : List (List ℕ)) → IsIncreasing (k ∷ ks) → IsIn j ks → same k j ≡ false
apart k j ks s m = tested (same k j)
    (λ e. absurd (before_not_itself k (ap (before k) (same_eq k j e) ∙ all_later k j ks s.0 m)))
    (λ e. e)

-- and once to its own
touched : (f : ℕ → List ℕ) (v : ℕ → ℤ) (x : ℕ) (xs : List ℕ) (T : List ℕ → Bool) (ks : List (List ℕ)) → IsIncreasing ks → IsIn (f x) ks
    → over (at_key f v (x ∷ xs)) (filter T ks) ≡ cond (T (f x)) (v x) (pos 0) +ℤ over (at_key f v xs) (filter T ks)
touched f v x xs T [] s m = absurd m
touched f v x xs T (k ∷ ks) s m = tested (same (f x) k)
    (λ e. own e (same_eq (f x) k e))
    (λ e. other e (λ i. touched f v x xs T ks s.1 i) m)
  where
    all : List (List ℕ) → ℤ
    all ls = over (at_key f v (x ∷ xs)) ls

    rest : List (List ℕ) → ℤ
    rest ls = over (at_key f v xs) ls

    own_cases : (b : Bool) → same (f x) k ≡ true → all (filter T ks) ≡ rest (filter T ks)
        → all (cond b (k ∷ filter T ks) (filter T ks)) ≡ cond b (v x) (pos 0) +ℤ rest (cond b (k ∷ filter T ks) (filter T ks))
    own_cases true e r =
        let at : at_key f v (x ∷ xs) k ≡ v x +ℤ at_key f v xs k = ap (λ c. gather v (cond c (x ∷ filter (λ i. same (f i) k) xs) (filter (λ i. same (f i) k) xs))) e in
        ap₂ (λ a b. a +ℤ b) at r ∙ moved (v x) (at_key f v xs k) (rest (filter T ks))
      where
        moved : (a b c : ℤ) → (a +ℤ b) +ℤ c ≡ a +ℤ (b +ℤ c)
        moved a b c = omega (arith, ints)
    own_cases false e r = r ∙ nothing (rest (filter T ks))
      where
        nothing : (a : ℤ) → a ≡ pos 0 +ℤ a
        nothing a = omega (arith, ints)

    own : same (f x) k ≡ true → f x ≡ k → all (filter T (k ∷ ks)) ≡ cond (T (f x)) (v x) (pos 0) +ℤ rest (filter T (k ∷ ks))
    own e d =
        own_cases (T k) e (untouched f v x xs T ks (λ j i. ap (λ z. same z j) d ∙ apart k j ks s i))
        ∙ ap (λ z. cond (T z) (v x) (pos 0) +ℤ rest (filter T (k ∷ ks))) (sym d)

    other_cases : (b : Bool) → same (f x) k ≡ false → all (filter T ks) ≡ cond (T (f x)) (v x) (pos 0) +ℤ rest (filter T ks)
        → all (cond b (k ∷ filter T ks) (filter T ks)) ≡ cond (T (f x)) (v x) (pos 0) +ℤ rest (cond b (k ∷ filter T ks) (filter T ks))
    other_cases true e r =
        let at : at_key f v (x ∷ xs) k ≡ at_key f v xs k = ap (λ c. gather v (cond c (x ∷ filter (λ i. same (f i) k) xs) (filter (λ i. same (f i) k) xs))) e in
        ap₂ (λ a b. a +ℤ b) at r ∙ moved (at_key f v xs k) (cond (T (f x)) (v x) (pos 0)) (rest (filter T ks))
      where
        moved : (a b c : ℤ) → a +ℤ (b +ℤ c) ≡ b +ℤ (a +ℤ c)
        moved a b c = omega (arith, ints)
    other_cases false e r = r

    other : same (f x) k ≡ false → (IsIn (f x) ks → all (filter T ks) ≡ cond (T (f x)) (v x) (pos 0) +ℤ rest (filter T ks)) → IsIn (f x) (k ∷ ks) → all (filter T (k ∷ ks)) ≡ cond (T (f x)) (v x) (pos 0) +ℤ rest (filter T (k ∷ ks))
    other e again (inl d) = absurd (true≢false (sym (same_refl k) ∙ ap (λ z. same z k) d ∙ e))
    other e again (inr i) = other_cases (T k) e (again i)

-- Keys that are chosen by a test have together the places that pass it, where the test of a place is that of its key.
pub partition : (f : ℕ → List ℕ) (v : ℕ → ℤ) (T : List ℕ → Bool) (t : ℕ → Bool) (xs : List ℕ) (ks : List (List ℕ)) → IsIncreasing ks → ((i : ℕ) → IsIn i xs → IsIn (f i) ks) → ((i : ℕ) → IsIn i xs → t i ≡ T (f i))
    → over (at_key f v xs) (filter T ks) ≡ gather v (filter t xs)
partition f v T t [] ks s m e = over_zero f v (filter T ks)
partition f v T t (x ∷ xs) ks s m e = touched f v x xs T ks s (m x (inl refl)) ∙ go (t x) (T (f x)) (e x (inl refl)) (partition f v T t xs ks s (λ i j. m i (inr j)) (λ i j. e i (inr j)))
  where
    nothing : (a : ℤ) → pos 0 +ℤ a ≡ a
    nothing a = omega (arith, ints)

    go : (a b : Bool) → a ≡ b → over (at_key f v xs) (filter T ks) ≡ gather v (filter t xs) → cond b (v x) (pos 0) +ℤ over (at_key f v xs) (filter T ks) ≡ gather v (cond a (x ∷ filter t xs) (filter t xs))
    go true true d r = ap (λ z. v x +ℤ z) r
    go true false d r = absurd (true≢false d)
    go false true d r = absurd (true≢false (sym d))
    go false false d r = nothing (over (at_key f v xs) (filter T ks)) ∙ r

pub filter_true : {X : Type 0} (xs : List X) → filter (λ x. true) xs ≡ xs
filter_true [] = refl
filter_true (x ∷ xs) = ap (λ ys. x ∷ ys) (filter_true xs)

pub partition_all : (f : ℕ → List ℕ) (v : ℕ → ℤ) (xs : List ℕ) (ks : List (List ℕ)) → IsIncreasing ks → ((i : ℕ) → IsIn i xs → IsIn (f i) ks) → over (at_key f v xs) ks ≡ gather v xs
partition_all f v xs ks s m =
    ap (over (at_key f v xs)) (sym (filter_true ks)) ∙ partition f v (λ k. true) (λ i. true) xs ks s m (λ i j. refl) ∙ ap (gather v) (filter_true xs)

-- the keys at chosen positions
pub at_positions : (h : List ℕ → ℤ) (w : ℕ → ℤ) (T : List ℕ → Bool) (t : ℕ → Bool) (ks : List (List ℕ)) (s : ℕ) → ((j : ℕ) → j < length ks → t (s + j) ≡ T (get_or ks j [])) → ((j : ℕ) → j < length ks → w (s + j) ≡ h (get_or ks j []))
    → gather w (filter t (count_from s (length ks))) ≡ over h (filter T ks)
at_positions h w T t [] s p q = refl
at_positions h w T t (k ∷ ks) s p q = go (t s) (T k) (ap t first ∙ p 0 (omega arith)) (ap w first ∙ q 0 (omega arith))
    (at_positions h w T t ks (suc s) (λ j l. ap t (next j) ∙ p (suc j) (omega (arith, l))) (λ j l. ap w (next j) ∙ q (suc j) (omega (arith, l))))
  where
    first : s ≡ s + 0
    first = omega arith

    next : (j : ℕ) → suc s + j ≡ s + suc j
    next j = omega arith

    go : (a b : Bool) → a ≡ b → w s ≡ h k → gather w (filter t (count_from (suc s) (length ks))) ≡ over h (filter T ks)
        → gather w (cond a (s ∷ filter t (count_from (suc s) (length ks))) (filter t (count_from (suc s) (length ks)))) ≡ over h (cond b (k ∷ filter T ks) (filter T ks))
    go true true d e r = ap₂ (λ a b. a +ℤ b) e r
    go true false d e r = absurd (true≢false d)
    go false true d e r = absurd (true≢false (sym d))
    go false false d e r = r

pub total-gather : (vs : List ℤ) (is : List ℕ) → total vs is ≡ gather (λ i. get_or vs i (pos 0)) is
total-gather vs [] = refl
total-gather vs (i ∷ is) = ap (λ z. get_or vs i (pos 0) +ℤ z) (total-gather vs is)

-- sums of natural numbers
pub gather-pos : (f : ℕ → ℕ) (is : List ℕ) → gather (λ i. pos (f i)) is ≡ pos (sum_by f is)
gather-pos f [] = refl
gather-pos f (i ∷ is) = let e = sum_by-cons f i is in let r = gather-pos f is in rw r (omega (arith, ints, e))

pub over-pos : (f : List ℕ → ℕ) (ks : List (List ℕ)) → over (λ k. pos (f k)) ks ≡ pos (sum_by f ks)
over-pos f [] = refl
over-pos f (k ∷ ks) = let e = sum_by-cons f k ks in let r = over-pos f ks in rw r (omega (arith, ints, e))

pub over_alike : (f g : List ℕ → ℤ) (ks : List (List ℕ)) → ((k : List ℕ) → f k ≡ g k) → over f ks ≡ over g ks
over_alike f g [] h = refl
over_alike f g (k ∷ ks) h = ap₂ (λ a b. a +ℤ b) (h k) (over_alike f g ks h)

pub sum_by-ones : (is : List ℕ) → sum_by (λ i. 1) is ≡ length is
sum_by-ones [] = refl
sum_by-ones (i ∷ is) = let e = sum_by-cons (λ (j : ℕ). 1) i is in let r = sum_by-ones is in omega (arith, e, r)

pub pos_same : (a b : ℕ) → pos a ≡ pos b → a ≡ b
pos_same a b e = omega (arith, ints, e)
