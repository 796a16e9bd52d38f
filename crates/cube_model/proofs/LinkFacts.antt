-- The laws on suiting, free, follows, basis and walks.
use Rattle.std.specs.Ordering.{int_eq}
use Rattle.std.proofs.Common.{◌≡◌, ℕ, zero, suc, ◌*◌, ◌<◌, inl, inr, ◌↔◌, Bool, true, false, cond, ◌&&◌, ◌||◌, List, [], ◌∷◌, ◌++◌, length, map, fold, ℤ, pos, negsuc, ◌+ℤ◌, refl, sym, ap, ap₂, ◌∙◌, subst, arith, eqb, eqb-true, ⊎_elim}
use Rattle.std.proofs.lemmas.Bool.{and_parts, or_cases}
use Rattle.std.proofs.lemmas.Bool.Decides.{Decides-int_eq}
use Rattle.std.proofs.lemmas.Int.{ints}
use Rattle.cube_model.specs.declared.link.Link.{Link}
use Rattle.cube_model.specs.declared.link.Link.TheVariants.{Pair, Single}
use Rattle.cube_model.specs.Cubes.{IsIn, Each, count_from}
use Rattle.cube_model.specs.Protection.{listed}
use Rattle.cube_model.specs.Links.{suits_link, suits, small_lists, suiting, is_free, follows, pairs_among, is_joined, Reached, further, reached}
use Rattle.cube_model.specs.Twins.{by_walks}
use Rattle.cube_model.specs.LinkLaws.{entry, Suits, IsSmall, SuitsAll, SuitingIs, FreeIs, FollowsIs, BasisSuits, AreOfPlaces, IsOfPlaces, SameChanges, Joins, Walk, WalksSuffice}
use Rattle.cube_model.proofs.Members.{IsIn-filter, filter_has, IsIn-flat_map, flat_map_has, IsIn-append, append_left, append_right}
use Rattle.cube_model.proofs.Parities.{IsOf, Freeing, freeing, walks_suit, all_at, all_from, pair_from, at_place, in_suiting, list_suits}
use Rattle.cube_model.proofs.Walks.{any_from, any_has, listed_from, even_sign, odd_sign, start_even, even_odd, odd_even, even_odd_back, odd_even_back}

pub suits_is : (xs : List ℤ) (l : Link) → suits_link xs l ≡ true → Suits xs l
suits_is xs (Pair i j) e = (Decides-int_eq (entry xs i +ℤ entry xs j) (pos 0)).0 e
suits_is xs (Single i) e = (Decides-int_eq (entry xs i) (pos 0)).0 e

pub is_suits : (xs : List ℤ) (l : Link) → Suits xs l → suits_link xs l ≡ true
is_suits xs (Pair i j) e = (Decides-int_eq (entry xs i +ℤ entry xs j) (pos 0)).1 e
is_suits xs (Single i) e = (Decides-int_eq (entry xs i) (pos 0)).1 e

pub small_is : (n : ℕ) (xs : List ℤ) → IsIn xs (small_lists n) → (length xs ≡ n) × Each IsSmall xs
small_is zero xs (inl e) = (ap length (sym e), subst (Each IsSmall) e tt)
small_is zero xs (inr k) = absurd k
small_is (suc n) xs h = go (λ rest k. small_is n rest k) (IsIn-flat_map (λ xs. (negsuc 0 ∷ xs) ∷ (pos 0 ∷ xs) ∷ (pos 1 ∷ xs) ∷ []) xs (small_lists n) h)
  where
    made : (rest : List ℤ) (v : ℤ) → (length rest ≡ n) × Each IsSmall rest → IsSmall v → (v ∷ rest) ≡ xs → (length xs ≡ suc n) × Each IsSmall xs
    made rest v r s e = (ap length (sym e) ∙ ap suc r.0, subst (Each IsSmall) e (s, r.1))

    go : ((rest : List ℤ) → IsIn rest (small_lists n) → (length rest ≡ n) × Each IsSmall rest) → (rest : List ℤ) × (IsIn rest (small_lists n)) × IsIn xs ((negsuc 0 ∷ rest) ∷ (pos 0 ∷ rest) ∷ (pos 1 ∷ rest) ∷ []) → (length xs ≡ suc n) × Each IsSmall xs
    go again r = cases r.2
      where
        cases : IsIn xs ((negsuc 0 ∷ r.0) ∷ (pos 0 ∷ r.0) ∷ (pos 1 ∷ r.0) ∷ []) → (length xs ≡ suc n) × Each IsSmall xs
        cases (inl e) = made r.0 (negsuc 0) (again r.0 r.1) (inl refl) e
        cases (inr (inl e)) = made r.0 (pos 0) (again r.0 r.1) (inr (inl refl)) e
        cases (inr (inr (inl e))) = made r.0 (pos 1) (again r.0 r.1) (inr (inr refl)) e
        cases (inr (inr (inr k))) = absurd k

pub is_small : (n : ℕ) (xs : List ℤ) → length xs ≡ n → Each IsSmall xs → IsIn xs (small_lists n)
is_small zero [] e s = inl refl
is_small zero (x ∷ xs) e s = absurd (omega arith)
is_small (suc n) [] e s = absurd (omega arith)
is_small (suc n) (x ∷ xs) e s = flat_map_has (λ xs. (negsuc 0 ∷ xs) ∷ (pos 0 ∷ xs) ∷ (pos 1 ∷ xs) ∷ []) xs (x ∷ xs) (small_lists n) (is_small n xs (omega arith) s.1) (go s.0)
  where
    go : IsSmall x → IsIn (x ∷ xs) ((negsuc 0 ∷ xs) ∷ (pos 0 ∷ xs) ∷ (pos 1 ∷ xs) ∷ [])
    go (inl e) = inl (ap (λ y. y ∷ xs) (sym e))
    go (inr (inl e)) = inr (inl (ap (λ y. y ∷ xs) (sym e)))
    go (inr (inr e)) = inr (inr (inl (ap (λ y. y ∷ xs) (sym e))))

pub suiting_is : SuitingIs
unfolding suiting
suiting_is n ls xs = (
  (λ h. let a = IsIn-filter (λ ys. suits ys ls) xs (small_lists n) h in let b = small_is n xs a.1 in record { long = b.0; small = b.1; all = λ l k. suits_is xs l (all_at (suits_link xs) l ls a.0 k) }),
  (λ s. filter_has (λ ys. suits ys ls) xs (small_lists n) (all_from (suits_link xs) ls (λ l k. is_suits xs l (s.all l k))) (is_small n xs s.long s.small)),
)

pub free_is : FreeIs
free_is n ls i = (
  (λ e. let a = any_from (λ xs. int_eq (entry xs i) (pos 1)) (suiting n ls) e in (a.0, (suiting_is n ls a.0).0 a.1, (Decides-int_eq (entry a.0 i) (pos 1)).0 a.2)),
  (λ s. any_has (λ xs. int_eq (entry xs i) (pos 1)) s.0 (suiting n ls) ((suiting_is n ls s.0).1 s.1) ((Decides-int_eq (entry s.0 i) (pos 1)).1 s.2)),
)

pub follows_is : FollowsIs
follows_is n ls l = (
  (λ e xs s. suits_is xs l (all_at (λ ys. suits_link ys l) xs (suiting n ls) e ((suiting_is n ls xs).1 s))),
  (λ f. all_from (λ ys. suits_link ys l) (suiting n ls) (λ xs k. is_suits xs l (f xs ((suiting_is n ls xs).0 k)))),
)

-- keeping what does not follow
pub kept_more : ℕ → List Link → Link → List Link
kept_more n kept l = cond (follows n kept l) kept (kept ++ l ∷ [])

pub basis_from : (n : ℕ) (kept ls : List Link) (xs : List ℤ) → SuitsAll n (fold (kept_more n) kept ls) xs ↔ (SuitsAll n kept xs × SuitsAll n ls xs)
unfolding kept_more
basis_from n kept [] xs = ((λ s. (s, record { long = s.long; small = s.small; all = λ l k. absurd k })), (λ s. s.0))
basis_from n kept (l ∷ ls) xs = go (follows n kept l) refl (λ k. basis_from n k ls xs)
  where
    go : (b : Bool) → follows n kept l ≡ b → ((k : List Link) → SuitsAll n (fold (kept_more n) k ls) xs ↔ (SuitsAll n k xs × SuitsAll n ls xs)) → SuitsAll n (fold (kept_more n) (cond b kept (kept ++ l ∷ [])) ls) xs ↔ (SuitsAll n kept xs × SuitsAll n (l ∷ ls) xs)
    go true e again = (
      (λ s. let r = (again kept).0 s in (r.0, record { long = r.0.long; small = r.0.small; all = with_l r.0 r.1 ((follows_is n kept l).0 e xs r.0) })),
      (λ s. (again kept).1 (s.0, record { long = s.0.long; small = s.0.small; all = λ x k. s.1.all x (inr k) })),
    )
      where
        with_l : SuitsAll n kept xs → SuitsAll n ls xs → Suits xs l → (x : Link) → IsIn x (l ∷ ls) → Suits xs x
        with_l a b c x (inl q) = subst (Suits xs) q c
        with_l a b c x (inr k) = b.all x k
    go false e again = (
      (λ s. let r = (again (kept ++ l ∷ [])).0 s in (
        record { long = r.0.long; small = r.0.small; all = λ x k. r.0.all x (append_left x kept (l ∷ []) k) },
        record { long = r.0.long; small = r.0.small; all = with_l r.0 r.1 },
      )),
      (λ s. (again (kept ++ l ∷ [])).1 (record { long = s.0.long; small = s.0.small; all = joined s.0 s.1 }, record { long = s.0.long; small = s.0.small; all = λ x k. s.1.all x (inr k) })),
    )
      where
        with_l : SuitsAll n (kept ++ l ∷ []) xs → SuitsAll n ls xs → (x : Link) → IsIn x (l ∷ ls) → Suits xs x
        with_l a b x (inl q) = subst (Suits xs) q (a.all l (append_right l kept (l ∷ []) (inl refl)))
        with_l a b x (inr k) = b.all x k

        joined : SuitsAll n kept xs → SuitsAll n (l ∷ ls) xs → (x : Link) → IsIn x (kept ++ l ∷ []) → Suits xs x
        joined a b x k = ⊎_elim (λ z. a.all x z) last (IsIn-append x kept (l ∷ []) k)
          where
            last : IsIn x (l ∷ []) → Suits xs x
            last (inl q) = subst (Suits xs) q (b.all l (inl refl))
            last (inr z) = absurd z

pub basis_suits : BasisSuits
unfolding kept_more
basis_suits n ls xs = (
  (λ s. ((basis_from n [] ls xs).0 s).1),
  (λ s. (basis_from n [] ls xs).1 (record { long = s.long; small = s.small; all = λ l k. absurd k }, s)),
)

-- links that the same lists suit
pub small_walks : (n : ℕ) (ps : List (ℕ × ℕ)) (i p : ℕ) → Rattle.cube_model.proofs.Parities.IsSmall (by_walks (reached n ps i (2 * n)) p)
small_walks n ps i p = go (listed p (reached n ps i (2 * n)).evenly) (listed p (reached n ps i (2 * n)).oddly)
  where
    go : (a b : Bool) → Rattle.cube_model.proofs.Parities.IsSmall (cond a (pos 1) (cond b (negsuc 0) (pos 0)))
    go true b = inr (inr refl)
    go false true = inl refl
    go false false = inr (inl refl)

pub of_places : (n : ℕ) (l : Link) → IsOfPlaces n l → IsOf (λ k. k < n) l
of_places n (Pair i j) h = h
of_places n (Single i) h = h

pub free_to : (n : ℕ) (ls ks : List Link) (i : ℕ) → ((xs : List ℤ) → SuitsAll n ls xs ↔ SuitsAll n ks xs) → is_free n ls i ≡ true → is_free n ks i ≡ true
free_to n ls ks i same e = let a = (free_is n ls i).0 e in (free_is n ks i).1 (a.0, (same a.0).0 a.1, a.2)

-- the change at a place, as each suiting list with +1 at the start has it
module _ (n : ℕ) (ls ks : List Link) (i : ℕ) (of_ls : AreOfPlaces n ls) (of_ks : AreOfPlaces n ks) (below : i < n) (same : (xs : List ℤ) → SuitsAll n ls xs ↔ SuitsAll n ks xs) (free : is_free n ls i ≡ true) where
  walked : ℕ → ℤ
  walked = by_walks (reached n (pairs_among ls) i (2 * n))

  walked_start : walked i ≡ pos 1
  unfolding walked
  walked_start = ap (λ b. cond b (pos 1) (cond (listed i (reached n (pairs_among ls) i (2 * n)).oddly) (negsuc 0) (pos 0))) (start_even n (pairs_among ls) i (λ e k. of_ls (Pair e.0 e.1) (pair_from ls e k)) below (2 * n))

  -- the changes for the first links suit the pairs of the others
  walked_suits : (e : ℕ × ℕ) → IsIn e (pairs_among ks) → walked e.0 +ℤ walked e.1 ≡ pos 0
  unfolding walked
  walked_suits e k =
      let l = of_ks (Pair e.0 e.1) (pair_from ks e k) in
      let s = (same (map walked (count_from 0 n))).0 ((suiting_is n ls (map walked (count_from 0 n))).0 (in_suiting walked n ls (small_walks n (pairs_among ls) i) (λ x z. of_places n x (of_ls x z)) (walks_suit n ls i below (λ x z. of_places n x (of_ls x z)) (freeing n ls i free)))) in
      ap₂ (λ x y. x +ℤ y) (sym (at_place walked n e.0 l.0)) (sym (at_place walked n e.1 l.1)) ∙ s.all (Pair e.0 e.1) (pair_from ks e k)

  -- where the others reach, the first have the same change
  agrees : (p : ℕ) → (listed p (reached n (pairs_among ks) i (2 * n)).evenly ≡ true → walked p ≡ pos 1) × (listed p (reached n (pairs_among ks) i (2 * n)).oddly ≡ true → walked p ≡ negsuc 0)
  agrees p = (
    (λ a. even_sign n (pairs_among ks) walked i (2 * n) p walked_suits a ∙ walked_start),
    (λ a. opposite (walked p) (walked i) (odd_sign n (pairs_among ks) walked i (2 * n) p walked_suits a) walked_start),
  )
    where
      opposite : (x y : ℤ) → x +ℤ y ≡ pos 0 → y ≡ pos 1 → x ≡ negsuc 0
      opposite x y p q = omega (arith, ints)

pub same_changes : SameChanges
unfolding walked
same_changes n ls ks i place of_ls of_ks below here same free = go
    (listed place (reached n (pairs_among ls) i (2 * n)).evenly) (listed place (reached n (pairs_among ls) i (2 * n)).oddly)
    (listed place (reached n (pairs_among ks) i (2 * n)).evenly) (listed place (reached n (pairs_among ks) i (2 * n)).oddly) refl refl refl refl
  where
    back : (xs : List ℤ) → SuitsAll n ks xs ↔ SuitsAll n ls xs
    back xs = ((same xs).1, (same xs).0)

    f : ℤ
    f = by_walks (reached n (pairs_among ls) i (2 * n)) place

    k : ℤ
    k = by_walks (reached n (pairs_among ks) i (2 * n)) place

    by_ks : (f ≡ f) × ((listed place (reached n (pairs_among ks) i (2 * n)).evenly ≡ true → f ≡ pos 1) × (listed place (reached n (pairs_among ks) i (2 * n)).oddly ≡ true → f ≡ negsuc 0))
    by_ks = (refl, agrees n ls ks i of_ls of_ks below same free place)

    by_ls : (listed place (reached n (pairs_among ls) i (2 * n)).evenly ≡ true → k ≡ pos 1) × (listed place (reached n (pairs_among ls) i (2 * n)).oddly ≡ true → k ≡ negsuc 0)
    by_ls = agrees n ks ls i of_ks of_ls below back (free_to n ls ks i same free) place

    go : (a b c d : Bool) → listed place (reached n (pairs_among ls) i (2 * n)).evenly ≡ a → listed place (reached n (pairs_among ls) i (2 * n)).oddly ≡ b → listed place (reached n (pairs_among ks) i (2 * n)).evenly ≡ c → listed place (reached n (pairs_among ks) i (2 * n)).oddly ≡ d → f ≡ k
    go a b true d p q r t = by_ks.1.0 r ∙ sym (ap (λ x. cond x (pos 1) (cond (listed place (reached n (pairs_among ks) i (2 * n)).oddly) (negsuc 0) (pos 0))) r)
    go true b false d p q r t = ap (λ x. cond x (pos 1) (cond (listed place (reached n (pairs_among ls) i (2 * n)).oddly) (negsuc 0) (pos 0))) p ∙ sym (by_ls.0 p)
    go false true false d p q r t = ap₂ (λ x y. cond x (pos 1) (cond y (negsuc 0) (pos 0))) p q ∙ sym (by_ls.1 q)
    go false false false true p q r t = by_ks.1.1 t ∙ sym (ap₂ (λ x y. cond x (pos 1) (cond y (negsuc 0) (pos 0))) r t)
    go false false false false p q r t = ap₂ (λ x y. cond x (pos 1) (cond y (negsuc 0) (pos 0))) p q ∙ sym (ap₂ (λ x y. cond x (pos 1) (cond y (negsuc 0) (pos 0))) r t)

-- walks and their ends
abbrev pub places_of : Reached → ℕ → List ℕ
places_of w zero = w.evenly
places_of w (suc zero) = w.oddly
places_of w (suc (suc k)) = places_of w k

pub step_on : (n : ℕ) (ps : List (ℕ × ℕ)) (from : ℕ) (of_ps : (e : ℕ × ℕ) → IsIn e ps → (e.0 < n) × (e.1 < n)) (below : from < n) (x q k : ℕ) → Joins ps x q → listed x (places_of (reached n ps from (2 * n)) k) ≡ true → listed q (places_of (reached n ps from (2 * n)) (suc k)) ≡ true
step_on n ps from of_ps below x q zero (inl j) l = even_odd n ps from of_ps below (x, q) j l
step_on n ps from of_ps below x q zero (inr j) l = even_odd_back n ps from of_ps below (q, x) j l
step_on n ps from of_ps below x q (suc zero) (inl j) l = odd_even n ps from of_ps below (x, q) j l
step_on n ps from of_ps below x q (suc zero) (inr j) l = odd_even_back n ps from of_ps below (q, x) j l
step_on n ps from of_ps below x q (suc (suc k)) j l = step_on n ps from of_ps below x q k j l

pub walk_ends : (n : ℕ) (ps : List (ℕ × ℕ)) (from : ℕ) (of_ps : (e : ℕ × ℕ) → IsIn e ps → (e.0 < n) × (e.1 < n)) (below : from < n) (k q : ℕ) → Walk ps from k q → listed q (places_of (reached n ps from (2 * n)) k) ≡ true
walk_ends n ps from of_ps below zero q e = subst (λ z. listed z (reached n ps from (2 * n)).evenly ≡ true) e (start_even n ps from of_ps below (2 * n))
walk_ends n ps from of_ps below (suc k) q h = step_on n ps from of_ps below h.0 q k h.2 (walk_ends n ps from of_ps below k h.0 h.1)

pub even_places : (w : Reached) (k : ℕ) → places_of w (2 * k) ≡ w.evenly
even_places w zero = refl
even_places w (suc k) = let e : 2 * suc k ≡ suc (suc (2 * k)) = omega arith in ap (places_of w) e ∙ even_places w k

pub odd_places : (w : Reached) (k : ℕ) → places_of w (suc (2 * k)) ≡ w.oddly
odd_places w zero = refl
odd_places w (suc k) = let e : suc (2 * suc k) ≡ suc (suc (suc (2 * k))) = omega arith in ap (places_of w) e ∙ odd_places w k

pub joins_from : (ps : List (ℕ × ℕ)) (q : ℕ) (xs : List ℕ) → is_joined ps q xs ≡ true → (x : ℕ) × (IsIn x xs) × Joins ps x q
joins_from ps q xs j = go (any_from (λ e. (eqb e.0 q && listed e.1 xs) || (eqb e.1 q && listed e.0 xs)) ps j)
  where
    go : (e : ℕ × ℕ) × (IsIn e ps) × (((eqb e.0 q && listed e.1 xs) || (eqb e.1 q && listed e.0 xs)) ≡ true) → (x : ℕ) × (IsIn x xs) × Joins ps x q
    go r = ⊎_elim
        (λ a. let p = and_parts (eqb r.0.0 q) (listed r.0.1 xs) a in (r.0.1, listed_from r.0.1 xs p.1, inr (subst (λ z. IsIn z ps) (pair_at (eqb-true r.0.0 q p.0) refl) r.1)))
        (λ a. let p = and_parts (eqb r.0.1 q) (listed r.0.0 xs) a in (r.0.0, listed_from r.0.0 xs p.1, inl (subst (λ z. IsIn z ps) (pair_at refl (eqb-true r.0.1 q p.0)) r.1)))
        (or_cases (eqb r.0.0 q && listed r.0.1 xs) (eqb r.0.1 q && listed r.0.0 xs) r.2)
      where
        pair : ℕ → ℕ → ℕ × ℕ
        pair a b = (a, b)

        pair_at : {a b c d : ℕ} → a ≡ c → b ≡ d → pair a b ≡ pair c d
        pair_at p q = ap₂ pair p q

-- a reached place has a walk
pub record Led (ps : List (ℕ × ℕ)) (from : ℕ) (w : Reached) : Type 0 where
  even : (q : ℕ) → IsIn q w.evenly → (k : ℕ) × Walk ps from (2 * k) q
  odd : (q : ℕ) → IsIn q w.oddly → (k : ℕ) × Walk ps from (suc (2 * k)) q

pub led : (n : ℕ) (ps : List (ℕ × ℕ)) (from k : ℕ) → Led ps from (reached n ps from k)
led n ps from zero = record { even = only; odd = λ q z. absurd z }
  where
    only : (q : ℕ) → IsIn q (from ∷ []) → (k : ℕ) × Walk ps from (2 * k) q
    only q (inl e) = (0, e)
    only q (inr z) = absurd z
led n ps from (suc k) = go (reached n ps from k) (led n ps from k)
  where
    one_more : (j x q : ℕ) → Walk ps from (suc (2 * j)) x → Joins ps x q → Walk ps from (2 * suc j) q
    one_more j x q w h = let e : suc (suc (2 * j)) ≡ 2 * suc j = omega arith in subst (λ z. Walk ps from z q) e (x, w, h)

    go : (w : Reached) → Led ps from w → Led ps from (further n ps w)
    go w i = record {
      even = λ q m. let t = (IsIn-filter (λ q. listed q w.evenly || is_joined ps q w.oddly) q (count_from 0 n) m).0 in ⊎_elim
          (λ a. i.even q (listed_from q w.evenly a))
          (λ a. let j = joins_from ps q w.oddly a in let v = i.odd j.0 j.1 in (suc v.0, one_more v.0 j.0 q v.1 j.2))
          (or_cases (listed q w.evenly) (is_joined ps q w.oddly) t);
      odd = λ q m. let t = (IsIn-filter (λ q. listed q w.oddly || is_joined ps q w.evenly) q (count_from 0 n) m).0 in ⊎_elim
          (λ a. i.odd q (listed_from q w.oddly a))
          (λ a. let j = joins_from ps q w.evenly a in let v = i.even j.0 j.1 in (v.0, (j.0, v.1, j.2)))
          (or_cases (listed q w.oddly) (is_joined ps q w.evenly) t);
    }

pub walks_suffice : WalksSuffice
walks_suffice n ps from of_ps below = record {
  evenly = λ q. ((λ h. l.even q h), (λ h. listed_from q (reached n ps from (2 * n)).evenly (ap (listed q) (sym (even_places (reached n ps from (2 * n)) h.0)) ∙ walk_ends n ps from of_ps below (2 * h.0) q h.1)));
  oddly = λ q. ((λ h. l.odd q h), (λ h. listed_from q (reached n ps from (2 * n)).oddly (ap (listed q) (sym (odd_places (reached n ps from (2 * n)) h.0)) ∙ walk_ends n ps from of_ps below (suc (2 * h.0)) q h.1)));
}
  where
    l : Led ps from (reached n ps from (2 * n))
    l = led n ps from (2 * n)
