-- The facts of a core cell stand at its one place, and no cell has more than there are.
use Rattle.std.proofs.Common.{◌≡◌, ℕ, zero, suc, ◌+◌, ◌<◌, ◌≤◌, inl, inr, ◌⊎◌, Bool, true, false, cond, List, [], ◌∷◌, ◌++◌, length, map, filter, sum, get_or, Option, Some, refl, sym, ap, ap₂, ◌∙◌, arith, ltb, add-zero}
use Rattle.cube_model.specs.declared.cell.Cell.{Cell}
use Rattle.cube_model.specs.Cores.{Core, IsCore}
use Rattle.cube_model.specs.Cubes.{key_at, core, covers, places, count_from}
use Rattle.cube_model.specs.Protection.{has_fewer, core_cell, facts_in}
use Rattle.cube_model.proofs.Members.{tested, same_refl}
use Rattle.cube_source.specs.Blocks.{bare}
use Rattle.cube_source.proofs.Fewer.{sum_cons}
use Rattle.cube_source.proofs.Steps.{same_or_above}
use Rattle.cube_source.proofs.Uncut.{alone}

-- ---- one place

none_kept : (p : ℕ → Bool) (s n : ℕ) → ((k : ℕ) → s ≤ k → k < s + n → p k ≡ false) → filter p (count_from s n) ≡ []
none_kept p s zero h = refl
none_kept p s (suc n) h = ap (λ (b : Bool). cond b (s ∷ filter p (count_from (suc s) n)) (filter p (count_from (suc s) n))) (h s (omega arith) (omega arith)) ∙ none_kept p (suc s) n (λ k a b. h k (omega (arith, a)) (omega (arith, b)))

one_kept : (p : ℕ → Bool) (s n i : ℕ) → s ≤ i → i < s + n → p i ≡ true → ((k : ℕ) → k < s + n → p k ≡ true → k ≡ i) → filter p (count_from s n) ≡ i ∷ []
one_kept p s zero i a b e only = absurd (omega (arith, a, b))
one_kept p s (suc n) i a b e only = go (same_or_above s i a) (λ l. one_kept p (suc s) n i l (omega (arith, b)) e (λ k r f. only k (omega (arith, r)) f))
  where
    go : (s ≡ i) ⊎ (suc s ≤ i) → (suc s ≤ i → filter p (count_from (suc s) n) ≡ i ∷ []) → filter p (count_from s (suc n)) ≡ i ∷ []
    go (inl q) again =
        ap (λ (b : Bool). cond b (s ∷ filter p (count_from (suc s) n)) (filter p (count_from (suc s) n))) (ap p q ∙ e)
        ∙ ap₂ (λ (x : ℕ) (xs : List ℕ). x ∷ xs) q (none_kept p (suc s) n (λ k l r. tested (p k) (λ f. let same = only k (omega (arith, r)) f in absurd (omega (arith, l, q, same))) (λ f. f)))
    go (inr l) again =
        ap (λ (b : Bool). cond b (s ∷ filter p (count_from (suc s) n)) (filter p (count_from (suc s) n))) (tested (p s) (λ f. let same = only s (omega arith) f in absurd (omega (arith, l, same))) (λ f. f))
        ∙ again l

-- the facts of a core cell
pub facts_alone : (c : Core) (i : ℕ) → IsCore c → i < length c.shape.points → facts_in (bare c) (core_cell (bare c) i) ≡ get_or c.shape.facts i 0
facts_alone c i ok l =
    ap (λ (is : List ℕ). sum (map (λ j. get_or c.shape.facts j 0) is))
    (one_kept (covers (bare c) (core_cell (bare c) i)) 0 (length c.shape.points) i (omega arith) (omega (arith, l)) (same_refl (key_at (bare c) (core (bare c)) i)) (λ k r e. alone c i k ok l (omega (arith, r)) e))
    ∙ sum_cons (get_or c.shape.facts i 0) [] ∙ add-zero (get_or c.shape.facts i 0)

pub place_some : (c : Core) (fewer : Option ℕ) (most n i : ℕ) → IsCore c → i < length c.shape.points → fewer ≡ Some most → n ≡ get_or c.shape.facts i 0 → ltb n most ≡ has_fewer (bare c) fewer (core_cell (bare c) i)
place_some c fewer most n i ok l e h = ap (λ (k : ℕ). ltb k most) (h ∙ sym (facts_alone c i ok l)) ∙ sym (ap (λ (f : Option ℕ). has_fewer (bare c) f (core_cell (bare c) i)) e)

-- ---- sums of facts

pub sum_push : (f : ℕ → ℕ) (xs : List ℕ) (x : ℕ) → sum (map f (xs ++ x ∷ [])) ≡ sum (map f xs) + f x
sum_push f [] x = let a = sum_cons (f x) [] in let z : sum [] ≡ 0 = refl in omega (arith, a, z)
sum_push f (y ∷ ys) x =
    let a = sum_cons (f y) (map f (ys ++ x ∷ [])) in
    let b = sum_cons (f y) (map f ys) in
    let r = sum_push f ys x in
    omega (arith, a, b, r)

pub entry_small : (xs : List ℕ) (i : ℕ) → get_or xs i 0 ≤ sum xs
entry_small [] zero = omega arith
entry_small [] (suc i) = omega arith
entry_small (x ∷ xs) zero = let a = sum_cons x xs in omega (arith, a)
entry_small (x ∷ xs) (suc i) = let a = sum_cons x xs in let r = entry_small xs i in omega (arith, a, r)

shifted : (x : ℕ) (xs : List ℕ) (s n : ℕ) → map (λ i. get_or (x ∷ xs) i 0) (count_from (suc s) n) ≡ map (λ i. get_or xs i 0) (count_from s n)
shifted x xs s zero = refl
shifted x xs s (suc n) = ap (λ (ys : List ℕ). get_or xs s 0 ∷ ys) (shifted x xs (suc s) n)

all_indexed : (xs : List ℕ) → sum (map (λ i. get_or xs i 0) (count_from 0 (length xs))) ≡ sum xs
all_indexed [] = refl
all_indexed (x ∷ xs) = sum_cons x (map (λ i. get_or (x ∷ xs) i 0) (count_from 1 (length xs))) ∙ ap (λ (ys : List ℕ). x + sum ys) (shifted x xs 0 (length xs)) ∙ ap (λ (n : ℕ). x + n) (all_indexed xs) ∙ sym (sum_cons x xs)

sum_kept : (f : ℕ → ℕ) (p : ℕ → Bool) (xs : List ℕ) → sum (map f (filter p xs)) ≤ sum (map f xs)
sum_kept f p [] = omega arith
sum_kept f p (x ∷ xs) = go (p x) (sum_kept f p xs)
  where
    go : (b : Bool) → sum (map f (filter p xs)) ≤ sum (map f xs) → sum (map f (cond b (x ∷ filter p xs) (filter p xs))) ≤ sum (f x ∷ map f xs)
    go true r = let a = sum_cons (f x) (map f (filter p xs)) in let b = sum_cons (f x) (map f xs) in omega (arith, a, b, r)
    go false r = let b = sum_cons (f x) (map f xs) in omega (arith, b, r)

-- no cell has more facts than there are
pub facts_few : (c : Core) (t : Cell) → IsCore c → facts_in (bare c) t ≤ 1000000
facts_few c t ok =
    let kept = sum_kept (λ i. get_or c.shape.facts i 0) (covers (bare c) t) (places (bare c)) in
    let all = ap (λ (n : ℕ). sum (map (λ i. get_or c.shape.facts i 0) (count_from 0 n))) (sym ok.facts) ∙ all_indexed c.shape.facts in
    let few = ok.few_facts in
    omega (arith, kept, all, few)
