-- A basis has at most as many links as there are places: each of its links takes one place at which a list that suits begins.
use Rattle.std.specs.List.{list_all, list_any}
use Rattle.std.specs.Ordering.{int_eq}
use Rattle.std.specs.Prelude.{◌+◌}
use Rattle.std.proofs.Common.{◌≡◌, ℕ, zero, suc, ◌<◌, ◌≤◌, ◌⊎◌, inl, inr, Bool, true, false, cond, ◌&&◌, List, [], ◌∷◌, ◌++◌, length, map, fold, ℤ, pos, negsuc, ◌+ℤ◌, neg_ℤ, refl, sym, ap, ap₂, ◌∙◌, subst, arith, append_assoc, append-nil, length-append, ⊎_elim}
use Rattle.std.proofs.lemmas.Bool.{false≢true, and_parts, and_from}
use Rattle.std.proofs.lemmas.Bool.Decides.{Decides-int_eq}
use Rattle.std.proofs.lemmas.Int.{ints}
use Rattle.std.proofs.lemmas.List.Sums.{fold-append}
use Rattle.cube_model.specs.declared.link.Link.{Link}
use Rattle.cube_model.specs.declared.link.Link.TheVariants.{Pair, Single}
use Rattle.cube_model.specs.Cubes.{Each, count_from}
use Rattle.cube_model.specs.Links.{suiting, follows, basis}
use Rattle.cube_model.specs.LinkLaws.{entry, Suits, IsSmall, SuitsAll, BasisOfMore, BasisIsShort}
use Rattle.cube_model.proofs.Compacts.{kept_more, Fresh, basis_fresh}
use Rattle.cube_model.proofs.FixedPlaces.{entry_neg, suits_neg, small_entry}
use Rattle.cube_model.proofs.LinkFacts.{suiting_is, follows_is}
use Rattle.cube_model.proofs.Members.{tested, append_left, append_right, IsIn-count_from, count_from_has}
use Rattle.cube_model.proofs.Parities.{all_at, all_from}
use Rattle.cube_model.proofs.Sums.{length-count_from}
use Rattle.cube_model.proofs.Walks.{tally, tally_below, tally_grows, any_from, any_has}

-- ---- a basis in steps
pub fresh_kept : (n : ℕ) (kept ls : List Link) → Fresh n kept ls → fold (kept_more n) kept ls ≡ kept ++ ls
unfolding kept_more
fresh_kept n kept [] f = sym (append-nil kept)
fresh_kept n kept (l ∷ ls) f = ap (λ b. fold (kept_more n) (cond b kept (kept ++ l ∷ [])) ls) f.0 ∙ fresh_kept n (kept ++ l ∷ []) ls f.1 ∙ append_assoc kept (l ∷ []) ls

pub basis_again : (n : ℕ) (ls : List Link) → basis n (basis n ls) ≡ basis n ls
unfolding kept_more
basis_again n ls = fresh_kept n [] (basis n ls) (basis_fresh n ls)

pub basis_of_more : BasisOfMore
unfolding kept_more
basis_of_more n ls ks = fold-append (kept_more n) [] (basis n ls) ks ∙ ap (λ b. fold (kept_more n) b ks) (basis_again n ls) ∙ sym (fold-append (kept_more n) [] ls ks)

-- ---- one small entry less another, but for a multiple of three
pub record Third (x y : ℤ) : Type 0 where
  pub rest : ℤ
  pub small : IsSmall rest
  pub many : ℤ
  pub is : x ≡ (rest +ℤ y) +ℤ ((many +ℤ many) +ℤ many)

pub third : (x y : ℤ) → IsSmall x → IsSmall y → Third x y
third x y (inl p) (inl q) = record { rest = pos 0; small = inr (inl refl); many = pos 0; is = omega (arith, ints) }
third x y (inl p) (inr (inl q)) = record { rest = negsuc 0; small = inl refl; many = pos 0; is = omega (arith, ints) }
third x y (inl p) (inr (inr q)) = record { rest = pos 1; small = inr (inr refl); many = negsuc 0; is = omega (arith, ints) }
third x y (inr (inl p)) (inl q) = record { rest = pos 1; small = inr (inr refl); many = pos 0; is = omega (arith, ints) }
third x y (inr (inl p)) (inr (inl q)) = record { rest = pos 0; small = inr (inl refl); many = pos 0; is = omega (arith, ints) }
third x y (inr (inl p)) (inr (inr q)) = record { rest = negsuc 0; small = inl refl; many = pos 0; is = omega (arith, ints) }
third x y (inr (inr p)) (inl q) = record { rest = negsuc 0; small = inl refl; many = pos 1; is = omega (arith, ints) }
third x y (inr (inr p)) (inr (inl q)) = record { rest = pos 1; small = inr (inr refl); many = pos 0; is = omega (arith, ints) }
third x y (inr (inr p)) (inr (inr q)) = record { rest = pos 0; small = inr (inl refl); many = pos 0; is = omega (arith, ints) }

-- a small number, or a sum of two, that is a multiple of three is 0
pub one_third : (a k : ℤ) → IsSmall a → a ≡ (k +ℤ k) +ℤ k → a ≡ pos 0
one_third a k (inl p) e = omega (arith, ints)
one_third a k (inr (inl p)) e = p
one_third a k (inr (inr p)) e = omega (arith, ints)

pub two_thirds : (a b k : ℤ) → IsSmall a → IsSmall b → a +ℤ b ≡ (k +ℤ k) +ℤ k → a +ℤ b ≡ pos 0
two_thirds a b k (inl p) (inl q) e = omega (arith, ints)
two_thirds a b k (inl p) (inr (inl q)) e = omega (arith, ints)
two_thirds a b k (inl p) (inr (inr q)) e = omega (arith, ints)
two_thirds a b k (inr (inl p)) (inl q) e = omega (arith, ints)
two_thirds a b k (inr (inl p)) (inr (inl q)) e = omega (arith, ints)
two_thirds a b k (inr (inl p)) (inr (inr q)) e = omega (arith, ints)
two_thirds a b k (inr (inr p)) (inl q) e = omega (arith, ints)
two_thirds a b k (inr (inr p)) (inr (inl q)) e = omega (arith, ints)
two_thirds a b k (inr (inr p)) (inr (inr q)) e = omega (arith, ints)

-- entry by entry the second list with the third makes the first, but for multiples of three
abbrev pub Differ : List ℤ → List ℤ → List ℤ → Type 0
Differ xs zs ys = (i : ℕ) → (k : ℤ) × (entry xs i ≡ (entry zs i +ℤ entry ys i) +ℤ ((k +ℤ k) +ℤ k))

-- what the one and the other suit, the third suits
pub suits_less : (xs zs ys : List ℤ) → Differ xs zs ys → Each IsSmall zs → (l : Link) → Suits xs l → Suits ys l → Suits zs l
suits_less xs zs ys d sz (Pair i j) a b =
    let p : entry xs i ≡ (entry zs i +ℤ entry ys i) +ℤ (((d i).0 +ℤ (d i).0) +ℤ (d i).0) = (d i).1 in
    let q : entry xs j ≡ (entry zs j +ℤ entry ys j) +ℤ (((d j).0 +ℤ (d j).0) +ℤ (d j).0) = (d j).1 in
    two_thirds (entry zs i) (entry zs j) (neg_ℤ ((d i).0 +ℤ (d j).0)) (small_entry zs i sz) (small_entry zs j sz) (sum (entry xs i) (entry xs j) (entry ys i) (entry ys j) (entry zs i) (entry zs j) (d i).0 (d j).0 p q a b)
  where
    sum : (x1 x2 y1 y2 z1 z2 k1 k2 : ℤ) → x1 ≡ (z1 +ℤ y1) +ℤ ((k1 +ℤ k1) +ℤ k1) → x2 ≡ (z2 +ℤ y2) +ℤ ((k2 +ℤ k2) +ℤ k2) → x1 +ℤ x2 ≡ pos 0 → y1 +ℤ y2 ≡ pos 0 → z1 +ℤ z2 ≡ (neg_ℤ (k1 +ℤ k2) +ℤ neg_ℤ (k1 +ℤ k2)) +ℤ neg_ℤ (k1 +ℤ k2)
    sum x1 x2 y1 y2 z1 z2 k1 k2 p q a b = omega (arith, ints)
suits_less xs zs ys d sz (Single i) a b = one_third (entry zs i) (neg_ℤ (d i).0) (small_entry zs i sz) (sum (entry xs i) (entry ys i) (entry zs i) (d i).0 (d i).1 a b)
  where
    sum : (x y z k : ℤ) → x ≡ (z +ℤ y) +ℤ ((k +ℤ k) +ℤ k) → x ≡ pos 0 → y ≡ pos 0 → z ≡ (neg_ℤ k +ℤ neg_ℤ k) +ℤ neg_ℤ k
    sum x y z k p a b = omega (arith, ints)

pub suits_sum : (xs zs ys : List ℤ) → Differ xs zs ys → Each IsSmall xs → (l : Link) → Suits zs l → Suits ys l → Suits xs l
suits_sum xs zs ys d sx (Pair i j) a b = two_thirds (entry xs i) (entry xs j) ((d i).0 +ℤ (d j).0) (small_entry xs i sx) (small_entry xs j sx) (sum (entry xs i) (entry xs j) (entry ys i) (entry ys j) (entry zs i) (entry zs j) (d i).0 (d j).0 (d i).1 (d j).1 a b)
  where
    sum : (x1 x2 y1 y2 z1 z2 k1 k2 : ℤ) → x1 ≡ (z1 +ℤ y1) +ℤ ((k1 +ℤ k1) +ℤ k1) → x2 ≡ (z2 +ℤ y2) +ℤ ((k2 +ℤ k2) +ℤ k2) → z1 +ℤ z2 ≡ pos 0 → y1 +ℤ y2 ≡ pos 0 → x1 +ℤ x2 ≡ ((k1 +ℤ k2) +ℤ (k1 +ℤ k2)) +ℤ (k1 +ℤ k2)
    sum x1 x2 y1 y2 z1 z2 k1 k2 p q a b = omega (arith, ints)
suits_sum xs zs ys d sx (Single i) a b = one_third (entry xs i) (d i).0 (small_entry xs i sx) (sum (entry xs i) (entry ys i) (entry zs i) (d i).0 (d i).1 a b)
  where
    sum : (x y z k : ℤ) → x ≡ (z +ℤ y) +ℤ ((k +ℤ k) +ℤ k) → z ≡ pos 0 → y ≡ pos 0 → x ≡ (k +ℤ k) +ℤ k
    sum x y z k p a b = omega (arith, ints)

-- the list of the rests
pub rests : (xs ys : List ℤ) → length xs ≡ length ys → Each IsSmall xs → Each IsSmall ys → (zs : List ℤ) × (length zs ≡ length xs) × (Each IsSmall zs) × Differ xs zs ys
rests [] [] e a b = ([], refl, tt, (λ i. (pos 0, refl)))
rests [] (y ∷ ys) e a b = absurd (omega arith)
rests (x ∷ xs) [] e a b = absurd (omega arith)
rests (x ∷ xs) (y ∷ ys) e a b =
    let t = third x y a.0 b.0 in
    let r = rests xs ys (omega arith) a.1 b.1 in
    (t.rest ∷ r.0, ap suc r.1, (t.small, r.2), with_head t r.0 r.3)
  where
    with_head : (t : Third x y) (zs : List ℤ) → Differ xs zs ys → Differ (x ∷ xs) (t.rest ∷ zs) (y ∷ ys)
    with_head t zs d zero = (t.many, t.is)
    with_head t zs d (suc i) = d i

-- ---- where a list begins
abbrev pub Begins : ℕ → List ℤ → Type 0
Begins i xs = (entry xs i ≡ pos 1) × ((j : ℕ) → j < i → entry xs j ≡ pos 0)

pub begins : ℕ → List ℤ → Bool
begins i xs = int_eq (entry xs i) (pos 1) && list_all (λ j. int_eq (entry xs j) (pos 0)) (count_from 0 i)

pub begins_is : (i : ℕ) (xs : List ℤ) → begins i xs ≡ true → Begins i xs
unfolding begins
begins_is i xs e = let a = and_parts (int_eq (entry xs i) (pos 1)) (list_all (λ j. int_eq (entry xs j) (pos 0)) (count_from 0 i)) e in
    ((Decides-int_eq (entry xs i) (pos 1)).0 a.0, (λ j l. (Decides-int_eq (entry xs j) (pos 0)).0 (all_at (λ j. int_eq (entry xs j) (pos 0)) j (count_from 0 i) a.1 (count_from_has j 0 i (omega arith) (omega arith)))))

pub is_begins : (i : ℕ) (xs : List ℤ) → Begins i xs → begins i xs ≡ true
unfolding begins
is_begins i xs b = and_from (int_eq (entry xs i) (pos 1)) (list_all (λ j. int_eq (entry xs j) (pos 0)) (count_from 0 i)) ((Decides-int_eq (entry xs i) (pos 1)).1 b.0)
    (all_from (λ j. int_eq (entry xs j) (pos 0)) (count_from 0 i) (λ j k. let l : j < 0 + i = (IsIn-count_from j 0 i k).1 in (Decides-int_eq (entry xs j) (pos 0)).1 (b.1 j (omega arith))))

-- some list that suits begins at the place
pub is_start : ℕ → List Link → ℕ → Bool
is_start n ls i = list_any (begins i) (suiting n ls)

pub start_from : (n : ℕ) (ls : List Link) (i : ℕ) → is_start n ls i ≡ true → (xs : List ℤ) × (SuitsAll n ls xs) × Begins i xs
unfolding is_start
start_from n ls i e = let a = any_from (begins i) (suiting n ls) e in (a.0, (suiting_is n ls a.0).0 a.1, begins_is i a.0 a.2)

pub start_has : (n : ℕ) (ls : List Link) (i : ℕ) (xs : List ℤ) → SuitsAll n ls xs → Begins i xs → is_start n ls i ≡ true
unfolding is_start
start_has n ls i xs s b = any_has (begins i) xs (suiting n ls) ((suiting_is n ls xs).1 s) (is_begins i xs b)

pub fewer : (n : ℕ) (ls : List Link) (l : Link) (xs : List ℤ) → SuitsAll n (ls ++ l ∷ []) xs → SuitsAll n ls xs
fewer n ls l xs s = record { long = s.long; small = s.small; all = λ x k. s.all x (append_left x ls (l ∷ []) k) }

pub beyond : (xs : List ℤ) (i : ℕ) → length xs ≤ i → entry xs i ≡ pos 0
beyond [] i l = refl
beyond (x ∷ xs) zero l = absurd (omega arith)
beyond (x ∷ xs) (suc i) l = beyond xs i (omega arith)

pub zeros_suit : (xs : List ℤ) → ((i : ℕ) → entry xs i ≡ pos 0) → (l : Link) → Suits xs l
zeros_suit xs z (Pair i j) = ap₂ (λ a b. a +ℤ b) (z i) (z j)
zeros_suit xs z (Single i) = z i

pub below_or : (i n : ℕ) → (i < n) ⊎ (n ≤ i)
below_or i n = grind arith

pub below_next : (j s : ℕ) → j < suc s → (j < s) ⊎ (j ≡ s)
below_next j s l = grind arith

pub opposite_suits : (xs : List ℤ) (l : Link) → Suits (map neg_ℤ xs) l → Suits xs l
opposite_suits xs (Pair i j) e = back (entry xs i) (entry xs j) (ap₂ (λ a b. a +ℤ b) (sym (entry_neg xs i)) (sym (entry_neg xs j)) ∙ e)
  where
    back : (a b : ℤ) → neg_ℤ a +ℤ neg_ℤ b ≡ pos 0 → a +ℤ b ≡ pos 0
    back a b e = omega (arith, ints)
opposite_suits xs (Single i) e = back (entry xs i) (sym (entry_neg xs i) ∙ e)
  where
    back : (a : ℤ) → neg_ℤ a ≡ pos 0 → a ≡ pos 0
    back a e = omega (arith, ints)

-- where lists begin at the same places with one more link, that link follows
module _ (n : ℕ) (ls : List Link) (l : Link) (same_starts : (i : ℕ) → i < n → is_start n ls i ≡ true → is_start n (ls ++ l ∷ []) i ≡ true) where
  -- a list that begins at a place is left with zeros up to there
  reduced : (s : ℕ) (xs : List ℤ) → s < n → SuitsAll n ls xs → Begins s xs → ((zs : List ℤ) → SuitsAll n ls zs → ((j : ℕ) → j < suc s → entry zs j ≡ pos 0) → Suits zs l) → Suits xs l
  reduced s xs below a b again =
      let y = start_from n (ls ++ l ∷ []) s (same_starts s below (start_has n ls s xs a b)) in
      let r = rests xs y.0 (a.long ∙ sym y.1.long) a.small y.1.small in
      let ys_suits : SuitsAll n ls y.0 = fewer n ls l y.0 y.1 in
      suits_sum xs r.0 y.0 r.3 a.small l
      (again r.0 (record { long = r.1 ∙ a.long; small = r.2; all = λ x k. suits_less xs r.0 y.0 r.3 r.2 x (a.all x k) (ys_suits.all x k) }) (λ j lj. zero_to j (below_next j s lj) y.0 y.2 r.0 r.2 r.3))
      (y.1.all l (append_right l ls (l ∷ []) (inl refl)))
    where
      rest_zero : (x y z k : ℤ) → IsSmall z → x ≡ (z +ℤ y) +ℤ ((k +ℤ k) +ℤ k) → x ≡ y → z ≡ pos 0
      rest_zero x y z k s e q = one_third z (neg_ℤ k) s (sum x y z k e q)
        where
          sum : (x y z k : ℤ) → x ≡ (z +ℤ y) +ℤ ((k +ℤ k) +ℤ k) → x ≡ y → z ≡ (neg_ℤ k +ℤ neg_ℤ k) +ℤ neg_ℤ k
          sum x y z k e q = omega (arith, ints)

      zero_to : (j : ℕ) → (j < s) ⊎ (j ≡ s) → (ys : List ℤ) → Begins s ys → (zs : List ℤ) → Each IsSmall zs → Differ xs zs ys → entry zs j ≡ pos 0
      zero_to j (inl lj) ys by zs sz d = rest_zero (entry xs j) (entry ys j) (entry zs j) (d j).0 (small_entry zs j sz) (d j).1 (b.1 j lj ∙ sym (by.1 j lj))
      zero_to j (inr e) ys by zs sz d = rest_zero (entry xs j) (entry ys j) (entry zs j) (d j).0 (small_entry zs j sz) (d j).1 (ap (entry xs) e ∙ b.0 ∙ sym (ap (entry ys) e ∙ by.0))

  suits_last : (k s : ℕ) → s + k ≡ n → (xs : List ℤ) → SuitsAll n ls xs → ((j : ℕ) → j < s → entry xs j ≡ pos 0) → Suits xs l
  suits_last zero s e xs a z = zeros_suit xs (λ i. ⊎_elim (λ (b : i < n). z i (omega arith)) (λ (b : n ≤ i). let q : length xs ≡ n = a.long in beyond xs i (omega arith)) (below_or i n)) l
  suits_last (suc k) s e xs a z = cases (small_entry xs s a.small) (λ zs b y. suits_last k (suc s) (omega arith) zs b y)
    where
      below : s < n
      below = omega arith

      cases : IsSmall (entry xs s) → ((zs : List ℤ) → SuitsAll n ls zs → ((j : ℕ) → j < suc s → entry zs j ≡ pos 0) → Suits zs l) → Suits xs l
      cases (inl q) again = opposite_suits xs l (reduced s (map neg_ℤ xs) below (suits_neg n ls xs a) (entry_neg xs s ∙ ap neg_ℤ q, (λ j lj. entry_neg xs j ∙ ap neg_ℤ (z j lj))) again)
      cases (inr (inl q)) again = again xs a (λ j lj. ⊎_elim (λ b. z j b) (λ b. ap (entry xs) b ∙ q) (below_next j s lj))
      cases (inr (inr q)) again = reduced s xs below a (q, z) again

  follows_last : follows n ls l ≡ true
  follows_last = (follows_is n ls l).1 (λ xs a. suits_last n 0 (omega arith) xs a (λ j lj. absurd (omega arith)))

-- a link that doesn't follow takes a place at which lists begin
pub starts : ℕ → List Link → ℕ
starts n ls = tally (is_start n ls) (count_from 0 n)

pub one_less : (n : ℕ) (ls : List Link) (l : Link) → follows n ls l ≡ false → suc (starts n (ls ++ l ∷ [])) ≤ starts n ls
unfolding starts
one_less n ls l e = ⊎_elim
    (λ a. absurd (false≢true (sym e ∙ follows_last n ls l (λ i below s. sym (a.0 i (count_from_has i 0 n (omega arith) (omega arith))) ∙ s))))
    (λ a. a)
    (tally_grows (is_start n (ls ++ l ∷ [])) (is_start n ls) (count_from 0 n) (λ i k s. let r = start_from n (ls ++ l ∷ []) i s in start_has n ls i r.0 (fewer n ls l r.0 r.1) r.2))

pub short_from : (n : ℕ) (kept ls : List Link) → length kept + starts n kept ≤ n → length (fold (kept_more n) kept ls) ≤ n
unfolding kept_more
short_from n kept [] h = omega arith
short_from n kept (l ∷ ls) h = short_from n (cond (follows n kept l) kept (kept ++ l ∷ [])) ls (tested (follows n kept l)
    (λ e. subst (λ b. length (cond b kept (kept ++ l ∷ [])) + starts n (cond b kept (kept ++ l ∷ [])) ≤ n) (sym e) h)
    (λ e. subst (λ b. length (cond b kept (kept ++ l ∷ [])) + starts n (cond b kept (kept ++ l ∷ [])) ≤ n) (sym e)
    (more (length (kept ++ l ∷ [])) (length kept) (starts n (kept ++ l ∷ [])) (starts n kept) (length-append kept (l ∷ [])) (one_less n kept l e) h)))
  where
    more : (a b c d : ℕ) → a ≡ b + 1 → suc c ≤ d → b + d ≤ n → a + c ≤ n
    more a b c d p q r = omega arith

pub basis_is_short : BasisIsShort
unfolding kept_more starts
basis_is_short n ls = short_from n [] ls (let a : tally (is_start n []) (count_from 0 n) ≤ length (count_from 0 n) = tally_below (is_start n []) (count_from 0 n) in let b : length (count_from 0 n) ≡ n = length-count_from 0 n in omega arith)
