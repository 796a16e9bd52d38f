-- The laws on first and least.
use Rattle.std.proofs.Common.{◌≡◌, ℕ, zero, suc, ◌+◌, ◌<◌, ◌≤◌, ◌⊎◌, inl, inr, Bool, true, false, cond, not, ◌&&◌, List, [], ◌∷◌, ◌++◌, length, map, filter, flat_map, find, Option, Some, None, refl, sym, ap, ◌∙◌, subst, arith, leb, true≢false}
use Rattle.std.proofs.lemmas.Bool.{false≢true, and_from, leb-true, not-true, not_from_false}
use Rattle.cube_model.specs.declared.cell.Cell.{Cell}
use Rattle.cube_model.specs.declared.policy.Method.TheVariants.{Lattice}
use Rattle.cube_model.specs.declared.verdict.Verdict.TheVariants.{Answer, Full}
use Rattle.cube_model.specs.Cubes.{Public, same, covers, together, places, count_from, IsIn}
use Rattle.cube_model.specs.Requests.{grain}
use Rattle.cube_model.specs.Protection.{same_cell, each_once, protected_by, protected, cutting_pairs, first, is_cut, uncut}
use Rattle.cube_model.specs.Entries.{requests}
use Rattle.cube_model.specs.Verdicts.{source, narrowed, holds_grain, most_held, unless_uncut, verdict}
use Rattle.cube_model.specs.Safe.{SafeIsAnswered}
use Rattle.cube_model.specs.Meanings.{ProtectedOnce, IsDistinct}
use Rattle.cube_model.specs.Firsts.{IsLeast, FindsLeast, FindsNone, FirstCovered, FirstCut, UncutIsFirst}
use Rattle.cube_model.proofs.Histories.{verdict_on}
use Rattle.cube_model.proofs.Members.{IsIn-filter, filter_has, IsIn-count_from, count_from_has, find_none, same_refl}
use Rattle.cube_model.proofs.Orders.{coarser_cuts}

pub finds_none : FindsNone
finds_none p s n e j a b = find_none p j (count_from s n) e (count_from_has j s n a b)

pub finds_least : FindsLeast
finds_least p s zero k e = absurd (cc)
finds_least p s (suc n) k e = go (p s) refl e (λ z. finds_least p (suc s) n k z)
  where
    go : (b : Bool) → p s ≡ b → cond b (Some s) (find p (count_from (suc s) n)) ≡ Some k → (find p (count_from (suc s) n) ≡ Some k → IsLeast p (suc s) n k) → IsLeast p s (suc n) k
    go true q z again = let k_is : s ≡ k = cc in record {
      from = omega arith;
      below = omega arith;
      passes = subst (λ x. p x ≡ true) k_is q;
      none_before = λ j a b. absurd (omega arith);
    }
    go false q z again = let r = again z in record {
      from = (let a : suc s ≤ k = r.from in omega arith);
      below = (let a : k < suc s + n = r.below in omega arith);
      passes = r.passes;
      none_before = λ j a b. cases j a b r (split j a);
    }
      where
        split : (j : ℕ) → s ≤ j → (s ≡ j) ⊎ (suc s ≤ j)
        split j a = grind arith

        cases : (j : ℕ) → s ≤ j → j < k → IsLeast p (suc s) n k → (s ≡ j) ⊎ (suc s ≤ j) → p j ≡ false
        cases j a b r (inl e) = subst (λ x. p x ≡ false) e q
        cases j a b r (inr l) = r.none_before j l b

-- the head of a filter of numbers in order is the least that passes
pub first_least : (p : ℕ → Bool) (s n i k : ℕ) → first (filter p (count_from s n)) ≡ Some i → IsIn k (count_from s n) → p k ≡ true → i ≤ k
first_least p s zero i k e h q = absurd h
first_least p s (suc n) i k e h q = go (p s) refl e (λ z m. first_least p (suc s) n i k z m q) h
  where
    go : (b : Bool) → p s ≡ b → first (cond b (s ∷ filter p (count_from (suc s) n)) (filter p (count_from (suc s) n))) ≡ Some i → (first (filter p (count_from (suc s) n)) ≡ Some i → IsIn k (count_from (suc s) n) → i ≤ k) → IsIn k (s ∷ count_from (suc s) n) → i ≤ k
    go true r z again m = let s_is : s ≡ i = cc in let l : s ≤ k = (IsIn-count_from k s (suc n) m).0 in omega arith
    go false r z again (inl m) = absurd (false≢true (sym r ∙ ap p m ∙ q))
    go false r z again (inr m) = again z m

pub in_places : (g : Public) (k : ℕ) → k < length g.shape.points → IsIn k (places g)
in_places g k l = count_from_has k 0 (length g.shape.points) (omega arith) (omega arith)

pub first_covered : FirstCovered
first_covered g t i k e l q = first_least (covers g t) 0 (length g.shape.points) i k e (in_places g k l) q

-- the head of pairs listed by the first and then by the second is the least
pub first_pair : (p : ℕ → Bool) (q : ℕ → ℕ → Bool) (all : List ℕ) (least : (i k j : ℕ) → first (filter (q i) all) ≡ Some k → IsIn j all → q i j ≡ true → k ≤ j) (s n : ℕ) (e : ℕ × ℕ) (i j : ℕ) → first (flat_map (λ x. map (λ y. (x, y)) (filter (q x) all)) (filter p (count_from s n))) ≡ Some e → IsIn i (count_from s n) → p i ≡ true → IsIn j all → q i j ≡ true → (e.0 < i) ⊎ ((e.0 ≡ i) × (e.1 ≤ j))
first_pair p q all least s zero e i j f h a k b = absurd h
first_pair p q all least s (suc n) e i j f h a k b = go (p s) refl f (λ z m. first_pair p q all least (suc s) n e i j z m a k b) h
  where
    rest : List (ℕ × ℕ)
    rest = flat_map (λ x. map (λ y. (x, y)) (filter (q x) all)) (filter p (count_from (suc s) n))

    block : (ys : List ℕ) → filter (q s) all ≡ ys → first (map (λ (y : ℕ). (s, y)) ys ++ rest) ≡ Some e → (first rest ≡ Some e → IsIn i (count_from (suc s) n) → (e.0 < i) ⊎ ((e.0 ≡ i) × (e.1 ≤ j))) → IsIn i (s ∷ count_from (suc s) n) → (e.0 < i) ⊎ ((e.0 ≡ i) × (e.1 ≤ j))
    block [] y z again (inl m) = absurd (nothing (subst (IsIn j) y (filter_has (q s) j all (ap (λ x. q x j) m ∙ b) k)))
      where
        nothing : IsIn j [] → ⊥
        nothing x = x
    block [] y z again (inr m) = again z m
    block (u ∷ us) y z again (inl m) = inr (ends (got z) ∙ m, subst (λ x. x ≤ j) (seconds (got z)) (least s u j (ap first y) k (ap (λ x. q x j) m ∙ b)))
      where
        got : Some (s, u) ≡ Some e → (s, u) ≡ e
        got w = cc

        ends : (s, u) ≡ e → e.0 ≡ s
        ends w = sym (ap (λ x. x.0) w)

        seconds : (s, u) ≡ e → u ≡ e.1
        seconds w = ap (λ x. x.1) w
    block (u ∷ us) y z again (inr m) = inl (below (got z))
      where
        got : Some (s, u) ≡ Some e → (s, u) ≡ e
        got w = cc

        below : (s, u) ≡ e → e.0 < i
        below w = let a : s ≡ e.0 = ap (λ x. x.0) w in let l : suc s ≤ i = (IsIn-count_from i (suc s) n m).0 in omega arith

    go : (c : Bool) → p s ≡ c → first (flat_map (λ x. map (λ y. (x, y)) (filter (q x) all)) (cond c (s ∷ filter p (count_from (suc s) n)) (filter p (count_from (suc s) n)))) ≡ Some e → (first rest ≡ Some e → IsIn i (count_from (suc s) n) → (e.0 < i) ⊎ ((e.0 ≡ i) × (e.1 ≤ j))) → IsIn i (s ∷ count_from (suc s) n) → (e.0 < i) ⊎ ((e.0 ≡ i) × (e.1 ≤ j))
    go true r z again m = block (filter (q s) all) refl z again m
    go false r z again (inl m) = absurd (false≢true (sym r ∙ ap p m ∙ a))
    go false r z again (inr m) = again z m

pub first_cut : FirstCut
unfolding cutting_pairs
first_cut g c t e i j f a b p q r = first_pair (covers g t) (λ i j. not (covers g t j) && together g c i j) (places g)
    (λ i k j z m x. first_least (λ j. not (covers g t j) && together g c i j) 0 (length g.shape.points) k j z m x)
    0 (length g.shape.points) e i j f (in_places g i a) p (in_places g j b) (and_from (not (covers g t j)) (together g c i j) (not_from_false (covers g t j) q) r)

-- a search splits the list
pub search_splits : (g : Public) (c : List ℕ) (ts : List Cell) (t : Cell) → find (λ s. not (is_cut g c s)) ts ≡ Some t → (before : List Cell) × (after : List Cell) × (ts ≡ before ++ t ∷ after) × ((s : Cell) → IsIn s before → is_cut g c s ≡ true) × (is_cut g c t ≡ false)
search_splits g c [] t e = absurd (cc)
search_splits g c (u ∷ us) t e = go (is_cut g c u) refl e (λ z. search_splits g c us t z)
  where
    go : (b : Bool) → is_cut g c u ≡ b → cond (not b) (Some u) (find (λ s. not (is_cut g c s)) us) ≡ Some t → (find (λ s. not (is_cut g c s)) us ≡ Some t → (before : List Cell) × (after : List Cell) × (us ≡ before ++ t ∷ after) × ((s : Cell) → IsIn s before → is_cut g c s ≡ true) × (is_cut g c t ≡ false)) → (before : List Cell) × (after : List Cell) × ((u ∷ us) ≡ before ++ t ∷ after) × ((s : Cell) → IsIn s before → is_cut g c s ≡ true) × (is_cut g c t ≡ false)
    go true q z again = let r = again z in (u ∷ r.0, r.1, ap (λ x. u ∷ x) r.2, with_u r.0 r.3, r.4)
      where
        with_u : (xs : List Cell) → ((s : Cell) → IsIn s xs → is_cut g c s ≡ true) → (s : Cell) → IsIn s (u ∷ xs) → is_cut g c s ≡ true
        with_u xs h s (inl e) = subst (λ x. is_cut g c x ≡ true) e q
        with_u xs h s (inr k) = h s k
    go false q z again = let u_is : u ≡ t = cc in ([], us, ap (λ x. x ∷ us) u_is, (λ s k. absurd k), subst (λ x. is_cut g c x ≡ false) u_is q)

pub uncut_is_first : UncutIsFirst
uncut_is_first g c m t e = let r = search_splits g c (protected g m) t e in record { before = r.0; after = r.1; split = r.2; cut_before = r.3; not_cut = r.4 }

pub distinct_filter : (p : Cell → Bool) (ts : List Cell) → IsDistinct ts → IsDistinct (filter p ts)
distinct_filter p [] d = tt
distinct_filter p (t ∷ ts) d = go (p t) (distinct_filter p ts d.1)
  where
    go : (b : Bool) → IsDistinct (filter p ts) → IsDistinct (cond b (t ∷ filter p ts) (filter p ts))
    go true r = ((λ k. d.0 (IsIn-filter p t ts k).1), r)
    go false r = r

pub once : (ts : List Cell) → IsDistinct (each_once ts)
once [] = tt
once (t ∷ ts) = ((λ k. true≢false (sym (and_from (same t.levels t.levels) (same t.key t.key) (same_refl t.levels) (same_refl t.key)) ∙ not-true (same_cell t t) (IsIn-filter (λ s. not (same_cell t s)) t (each_once ts) k).0)), distinct_filter (λ s. not (same_cell t s)) (each_once ts) (once ts))

pub protected_once : ProtectedOnce
unfolding protected
protected_once g m way = subst (λ k. IsDistinct (protected_by k g m)) (sym way) (once _)

-- a search of what all fail finds nothing
pub fails : {X : Type 0} (p : X → Bool) (xs : List X) → ((x : X) → IsIn x xs → p x ≡ false) → find p xs ≡ None
fails p [] h = refl
fails p (x ∷ xs) h = ap (λ b. cond b (Some x) (find p xs)) (h x (inl refl)) ∙ fails p xs (λ y k. h y (inr k))

pub safe_is_answered : SafeIsAnswered
safe_is_answered w h r m c ok way q none safe fine = go (source h m) none (leb most_held (length (requests h))) refl (uncut w.shown (grain r) m) all_cut (verdict_on w.shown h r m Lattice way q)
  where
    all_cut : uncut w.shown (grain r) m ≡ None
    all_cut = fails (λ t. not (is_cut w.shown (grain r) t)) (protected w.shown m) (λ t k. ap not (coarser_cuts w c (grain r) t ok fine (safe t k)))

    go : (o : Option (List ℕ)) → o ≡ None → (b : Bool) → leb most_held (length (requests h)) ≡ b → (u : Option Cell) → u ≡ None → verdict w.shown h r ≡ cond (holds_grain o (grain r)) (Answer false) (cond b (Full (length (requests h))) (unless_uncut (narrowed o (grain r)) (uncut w.shown (narrowed o (grain r)) m))) → (verdict w.shown h r ≡ Answer true) ⊎ ((verdict w.shown h r ≡ Full (length (requests h))) × (most_held ≤ length (requests h)))
    go None n true b u e v = inr (v, leb-true most_held (length (requests h)) b)
    go None n false b u e v = inl (v ∙ ap (unless_uncut (grain r)) all_cut)
    go (Some s) n b l u e v = absurd (cc)
