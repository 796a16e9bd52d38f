-- Free, fixed and what follows, by walks.
use Rattle.std.specs.List.{list_any}
use Rattle.std.specs.Ordering.{int_eq}
use Rattle.std.proofs.Common.{◌≡◌, ℕ, zero, suc, ◌*◌, ◌<◌, inl, inr, Bool, true, false, cond, not, ◌&&◌, ◌||◌, List, [], ◌∷◌, ◌++◌, length, map, ℤ, pos, negsuc, ◌+ℤ◌, neg_ℤ, refl, sym, ap, ap₂, ◌∙◌, arith, ⊎_elim}
use Rattle.std.proofs.lemmas.Bool.{false≢true, or_cases, or_parts, or_left, or_right, false_from_ne_true}
use Rattle.std.proofs.lemmas.Bool.Decides.{Decides-int_eq}
use Rattle.std.proofs.lemmas.Int.{ints}
use Rattle.cube_model.specs.declared.link.Link.{Link}
use Rattle.cube_model.specs.declared.link.Link.TheVariants.{Pair, Single}
use Rattle.cube_model.specs.Cubes.{IsIn, Each, count_from}
use Rattle.cube_model.specs.Protection.{listed}
use Rattle.cube_model.specs.Links.{suiting, is_free, follows, pairs_among}
use Rattle.cube_model.specs.Twins.{by_walks}
use Rattle.cube_model.specs.LinkLaws.{entry, Suits, IsSmall, SuitsAll, AreOfPlaces, singles_among, ends, is_fixed, FreeIsNotFixed, SingleFollows, PairFollows, FreeFromFewer}
use Rattle.cube_model.proofs.LinkFacts.{suiting_is, free_is, follows_is, small_walks, of_places}
use Rattle.cube_model.proofs.Members.{tested, append_left}
use Rattle.cube_model.proofs.Parities.{IsOf, Freeing, freeing, pair_from, pair_has, at_place, in_suiting}
use Rattle.cube_model.proofs.Walks.{any_from, any_has, listed_from, listed_has, even_sign, odd_sign, one_way, start_even, walks_balance_if}

pub single_from : (ls : List Link) (i : ℕ) → IsIn i (singles_among ls) → IsIn (Single i) ls
single_from [] i h = absurd h
single_from (Pair a b ∷ ls) i h = inr (single_from ls i h)
single_from (Single a ∷ ls) i (inl e) = inl (ap Single e)
single_from (Single a ∷ ls) i (inr k) = inr (single_from ls i k)

pub single_has : (ls : List Link) (i : ℕ) → IsIn (Single i) ls → IsIn i (singles_among ls)
single_has [] i h = absurd h
single_has (Pair a b ∷ ls) i (inl e) = absurd (cc)
single_has (Pair a b ∷ ls) i (inr k) = single_has ls i k
single_has (Single a ∷ ls) i (inl e) = inl (ap place e)
  where
    place : Link → ℕ
    place (Pair x y) = x
    place (Single x) = x
single_has (Single a ∷ ls) i (inr k) = inr (single_has ls i k)

pub one_not_zero : pos 1 ≡ pos 0 → ⊥
one_not_zero e = cc

-- a fixed place is not free
pub fixed_not_free : (n : ℕ) (ls : List Link) (i : ℕ) → is_fixed n ls i ≡ true → is_free n ls i ≡ true → ⊥
fixed_not_free n ls i x e = ⊎_elim
    (λ a. let q = any_from (λ q. listed q (ends n ls i).oddly) (ends n ls i).evenly a in
    one_way n (pairs_among ls) f.sign i (2 * n) q.0 pairs_suit not_none (listed_has q.0 (ends n ls i).evenly q.1) q.2)
    (λ a. let q = any_from (λ q. listed q (ends n ls i).evenly || listed q (ends n ls i).oddly) (singles_among ls) a in
    let z : f.sign q.0 ≡ pos 0 = f.suiting_all (Single q.0) (single_from ls q.0 q.1) in
    ⊎_elim
    (λ b. not_none (sym (even_sign n (pairs_among ls) f.sign i (2 * n) q.0 pairs_suit b) ∙ z))
    (λ b. not_none (odd_zero (f.sign q.0) (f.sign i) z (odd_sign n (pairs_among ls) f.sign i (2 * n) q.0 pairs_suit b)))
    (or_cases (listed q.0 (ends n ls i).evenly) (listed q.0 (ends n ls i).oddly) q.2))
    (or_cases (list_any (λ q. listed q (ends n ls i).oddly) (ends n ls i).evenly) (list_any (λ q. listed q (ends n ls i).evenly || listed q (ends n ls i).oddly) (singles_among ls)) x)
  where
    f : Freeing ls i
    f = freeing n ls i e

    pairs_suit : (e : ℕ × ℕ) → IsIn e (pairs_among ls) → f.sign e.0 +ℤ f.sign e.1 ≡ pos 0
    pairs_suit e k = f.suiting_all (Pair e.0 e.1) (pair_from ls e k)

    not_none : f.sign i ≡ pos 0 → ⊥
    not_none z = one_not_zero (sym f.plus ∙ z)

    odd_zero : (x y : ℤ) → x ≡ pos 0 → x +ℤ y ≡ pos 0 → y ≡ pos 0
    odd_zero x y p q = omega (arith, ints)

-- from a place that is not fixed the changes by walks suit all links
pub walks_in : (n : ℕ) (ls : List Link) (i : ℕ) → AreOfPlaces n ls → i < n → is_fixed n ls i ≡ false → IsIn (map (by_walks (ends n ls i)) (count_from 0 n)) (suiting n ls)
walks_in n ls i of_ls below x = in_suiting (by_walks (ends n ls i)) n ls (small_walks n (pairs_among ls) i) (λ l k. of_places n l (of_ls l k)) suit
  where
    parts : (list_any (λ q. listed q (ends n ls i).oddly) (ends n ls i).evenly ≡ false) × (list_any (λ q. listed q (ends n ls i).evenly || listed q (ends n ls i).oddly) (singles_among ls) ≡ false)
    parts = or_parts (list_any (λ q. listed q (ends n ls i).oddly) (ends n ls i).evenly) (list_any (λ q. listed q (ends n ls i).evenly || listed q (ends n ls i).oddly) (singles_among ls)) x

    not_both : (q : ℕ) → listed q (ends n ls i).evenly ≡ true → listed q (ends n ls i).oddly ≡ true → ⊥
    not_both q a b = false≢true (sym parts.0 ∙ any_has (λ q. listed q (ends n ls i).oddly) q (ends n ls i).evenly (listed_from q (ends n ls i).evenly a) b)

    alone : (q : ℕ) → IsIn q (singles_among ls) → by_walks (ends n ls i) q ≡ pos 0
    alone q k = go (listed q (ends n ls i).evenly) (listed q (ends n ls i).oddly) refl refl
      where
        reached_is : (listed q (ends n ls i).evenly || listed q (ends n ls i).oddly) ≡ true → ⊥
        reached_is e = false≢true (sym parts.1 ∙ any_has (λ q. listed q (ends n ls i).evenly || listed q (ends n ls i).oddly) q (singles_among ls) k e)

        go : (a b : Bool) → listed q (ends n ls i).evenly ≡ a → listed q (ends n ls i).oddly ≡ b → cond a (pos 1) (cond b (negsuc 0) (pos 0)) ≡ pos 0
        go true b p r = absurd (reached_is (or_left (listed q (ends n ls i).evenly) (listed q (ends n ls i).oddly) p))
        go false true p r = absurd (reached_is (or_right (listed q (ends n ls i).evenly) (listed q (ends n ls i).oddly) r))
        go false false p r = refl

    suit : (l : Link) → IsIn l ls → Rattle.cube_model.proofs.Parities.Suits (by_walks (ends n ls i)) l
    suit (Pair a b) k = walks_balance_if n (pairs_among ls) i (a, b) (λ e z. of_ls (Pair e.0 e.1) (pair_from ls e z)) below not_both (pair_has ls a b k)
    suit (Single a) k = alone a (single_has ls a k)

pub at_start : (n : ℕ) (ls : List Link) (i : ℕ) → AreOfPlaces n ls → i < n → by_walks (ends n ls i) i ≡ pos 1
at_start n ls i of_ls below = ap (λ b. cond b (pos 1) (cond (listed i (ends n ls i).oddly) (negsuc 0) (pos 0))) (start_even n (pairs_among ls) i (λ e k. of_ls (Pair e.0 e.1) (pair_from ls e k)) below (2 * n))

pub not_fixed_free : (n : ℕ) (ls : List Link) (i : ℕ) → AreOfPlaces n ls → i < n → is_fixed n ls i ≡ false → is_free n ls i ≡ true
not_fixed_free n ls i of_ls below x = any_has (λ xs. int_eq (entry xs i) (pos 1)) (map (by_walks (ends n ls i)) (count_from 0 n)) (suiting n ls) (walks_in n ls i of_ls below x)
    ((Decides-int_eq _ (pos 1)).1 (at_place (by_walks (ends n ls i)) n i below ∙ at_start n ls i of_ls below))

pub free_is_not_fixed : FreeIsNotFixed
free_is_not_fixed n ls i of_ls below = tested (is_fixed n ls i)
    (λ x. false_from_ne_true (is_free n ls i) (fixed_not_free n ls i x) ∙ sym (ap not x))
    (λ x. not_fixed_free n ls i of_ls below x ∙ sym (ap not x))

-- the opposite of a list that suits
pub entry_neg : (xs : List ℤ) (i : ℕ) → entry (map neg_ℤ xs) i ≡ neg_ℤ (entry xs i)
entry_neg [] i = refl
entry_neg (x ∷ xs) zero = refl
entry_neg (x ∷ xs) (suc i) = entry_neg xs i

pub suits_neg : (n : ℕ) (ls : List Link) (xs : List ℤ) → SuitsAll n ls xs → SuitsAll n ls (map neg_ℤ xs)
suits_neg n ls xs s = record { long = length-map xs ∙ s.long; small = small_neg xs s.small; all = λ l k. one l (s.all l k) }
  where
    length-map : (ys : List ℤ) → length (map neg_ℤ ys) ≡ length ys
    length-map [] = refl
    length-map (y ∷ ys) = ap suc (length-map ys)

    small_one : (x : ℤ) → IsSmall x → IsSmall (neg_ℤ x)
    small_one x (inl e) = inr (inr (ap neg_ℤ e))
    small_one x (inr (inl e)) = inr (inl (ap neg_ℤ e))
    small_one x (inr (inr e)) = inl (ap neg_ℤ e)

    small_neg : (ys : List ℤ) → Each IsSmall ys → Each IsSmall (map neg_ℤ ys)
    small_neg [] e = tt
    small_neg (y ∷ ys) e = (small_one y e.0, small_neg ys e.1)

    sum_neg : (a b : ℤ) → a +ℤ b ≡ pos 0 → neg_ℤ a +ℤ neg_ℤ b ≡ pos 0
    sum_neg a b e = omega (arith, ints)

    one : (l : Link) → Suits xs l → Suits (map neg_ℤ xs) l
    one (Pair i j) e = ap₂ (λ a b. a +ℤ b) (entry_neg xs i) (entry_neg xs j) ∙ sum_neg (entry xs i) (entry xs j) e
    one (Single i) e = entry_neg xs i ∙ ap neg_ℤ e

-- an entry of a small list is small
pub small_entry : (xs : List ℤ) (i : ℕ) → Each IsSmall xs → IsSmall (entry xs i)
small_entry [] i e = inr (inl refl)
small_entry (x ∷ xs) zero e = e.0
small_entry (x ∷ xs) (suc i) e = small_entry xs i e.1

-- at a fixed place each list that suits is 0
pub fixed_zero : (n : ℕ) (ls : List Link) (i : ℕ) → is_fixed n ls i ≡ true → (xs : List ℤ) → SuitsAll n ls xs → entry xs i ≡ pos 0
fixed_zero n ls i x xs s = cases (small_entry xs i s.small)
  where
    cases : IsSmall (entry xs i) → entry xs i ≡ pos 0
    cases (inl e) = absurd (fixed_not_free n ls i x ((free_is n ls i).1 (map neg_ℤ xs, suits_neg n ls xs s, entry_neg xs i ∙ ap neg_ℤ e)))
    cases (inr (inl e)) = e
    cases (inr (inr e)) = absurd (fixed_not_free n ls i x ((free_is n ls i).1 (xs, s, e)))

pub single_follows : SingleFollows
single_follows n ls i of_ls below = tested (is_fixed n ls i)
    (λ x. (follows_is n ls (Single i)).1 (fixed_zero n ls i x) ∙ sym x)
    (λ x. false_from_ne_true (follows n ls (Single i)) (λ e.
    let a = (free_is n ls i).0 (not_fixed_free n ls i of_ls below x) in
    one_not_zero (sym a.2 ∙ (follows_is n ls (Single i)).0 e a.0 a.1)) ∙ sym x)

-- a walk of oddly many pairs makes entries opposite
pub odd_opposite : (n : ℕ) (ls : List Link) (i j : ℕ) → listed j (ends n ls i).oddly ≡ true → (xs : List ℤ) → SuitsAll n ls xs → entry xs i +ℤ entry xs j ≡ pos 0
odd_opposite n ls i j e xs s = swap (entry xs j) (entry xs i) (odd_sign n (pairs_among ls) (entry xs) i (2 * n) j (λ p k. s.all (Pair p.0 p.1) (pair_from ls p k)) e)
  where
    swap : (a b : ℤ) → a +ℤ b ≡ pos 0 → b +ℤ a ≡ pos 0
    swap a b e = omega (arith, ints)

pub pair_follows : PairFollows
pair_follows n ls i j of_ls bi bj = go (is_fixed n ls i) (is_fixed n ls j) (listed j (ends n ls i).oddly) refl refl refl
  where
    both_zero : (a b : ℤ) → a ≡ pos 0 → b ≡ pos 0 → a +ℤ b ≡ pos 0
    both_zero a b p q = omega (arith, ints)

    never : (a b : ℤ) → a ≡ pos 0 → b ≡ pos 1 → a +ℤ b ≡ pos 0 → ⊥
    never a b p q r = omega (arith, ints)

    minus : (a b : ℤ) → a ≡ pos 1 → a +ℤ b ≡ pos 0 → b ≡ negsuc 0
    minus a b p q = omega (arith, ints)

    by_odd : (c d : Bool) → by_walks (ends n ls i) j ≡ negsuc 0 → listed j (ends n ls i).evenly ≡ c → listed j (ends n ls i).oddly ≡ d → d ≡ true
    by_odd true d e p q = absurd (clash (sym (ap (λ b. cond b (pos 1) (cond (listed j (ends n ls i).oddly) (negsuc 0) (pos 0))) p) ∙ e))
      where
        clash : pos 1 ≡ negsuc 0 → ⊥
        clash e = cc
    by_odd false true e p q = refl
    by_odd false false e p q = absurd (clash (sym (ap₂ (λ b c. cond b (pos 1) (cond c (negsuc 0) (pos 0))) p q) ∙ e))
      where
        clash : pos 0 ≡ negsuc 0 → ⊥
        clash e = cc

    go : (a b c : Bool) → is_fixed n ls i ≡ a → is_fixed n ls j ≡ b → listed j (ends n ls i).oddly ≡ c → follows n ls (Pair i j) ≡ ((a && b) || c)
    go true true c p q r = (follows_is n ls (Pair i j)).1 (λ xs s. both_zero (entry xs i) (entry xs j) (fixed_zero n ls i p xs s) (fixed_zero n ls j q xs s))
    go true false true p q r = (follows_is n ls (Pair i j)).1 (odd_opposite n ls i j r)
    go false b true p q r = (follows_is n ls (Pair i j)).1 (odd_opposite n ls i j r)
    go true false false p q r = false_from_ne_true (follows n ls (Pair i j)) (λ e.
        let a = (free_is n ls j).0 (not_fixed_free n ls j of_ls bj q) in
        never (entry a.0 i) (entry a.0 j) (fixed_zero n ls i p a.0 a.1) a.2 ((follows_is n ls (Pair i j)).0 e a.0 a.1))
    go false b false p q r = false_from_ne_true (follows n ls (Pair i j)) (λ e.
        let xs : List ℤ = map (by_walks (ends n ls i)) (count_from 0 n) in
        let s = (follows_is n ls (Pair i j)).0 e xs ((suiting_is n ls xs).0 (walks_in n ls i of_ls bi p)) in
        let m = minus (entry xs i) (entry xs j) (at_place (by_walks (ends n ls i)) n i bi ∙ at_start n ls i of_ls bi) s in
        false≢true (sym r ∙ by_odd (listed j (ends n ls i).evenly) (listed j (ends n ls i).oddly) (sym (at_place (by_walks (ends n ls i)) n j bj) ∙ m) refl refl))

pub free_from_fewer : FreeFromFewer
free_from_fewer n ls ks i e = let a = (free_is n (ls ++ ks) i).0 e in
    (free_is n ls i).1 (a.0, record { long = a.1.long; small = a.1.small; all = λ l k. a.1.all l (append_left l ls ks k) }, a.2)
