-- What components say of links: which places are free, which links follow, and what a change makes of them.
use mathlib.Core.Bool.{xor, beq}
use Rattle.std.proofs.Common.{◌≡◌, ◌≢◌, ℕ, zero, suc, ◌<◌, inl, inr, ◌↔◌, Bool, true, false, cond, not, ◌||◌, List, [], ◌∷◌, ◌++◌, map, ℤ, pos, negsuc, refl, sym, ap, ap₂, ◌∙◌, subst, arith, eqb, ⊎_elim}
use Rattle.std.proofs.lemmas.Bool.{false≢true, cases_eq, cases_Bool, or_cases, and_cases, eq-eqb, eqb-true, false_from_ne_true, or_left, or_right}
use Rattle.std.proofs.lemmas.Int.{ints}
use Rattle.std.proofs.lemmas.List.{length-map}
use Rattle.cube_model.specs.declared.link.Link.{Link}
use Rattle.cube_model.specs.Cubes.{IsIn, Each, count_from}
use Rattle.cube_model.specs.Links.{is_free, follows}
use Rattle.cube_model.specs.LinkLaws.{entry, IsSmall, Suits, SuitsAll}
use Rattle.cube_model.proofs.FixedPlaces.{one_not_zero}
use Rattle.cube_model.proofs.LinkFacts.{free_is, follows_is}
use Rattle.cube_model.proofs.Members.{IsIn-append, append_left, append_right}
use Rattle.cube_model.proofs.Parities.{at_place}
use Rattle.cube_model.proofs.Sums.{length-count_from}
use Rattle.cube_colour.specs.declared.forest.Change.{Change}
use Rattle.cube_colour.specs.declared.forest.Change.TheVariants.{Fix, Join}
use Rattle.cube_colour.specs.declared.forest.Effect.TheVariants.{Follows, Changes}
use Rattle.cube_colour.specs.Forests.{Labels, is_fixed, turned, Holds, AreLabels, relabelled, Asks, IsNews, Does, sign_beside}
use Rattle.cube_colour.proofs.Nodes.{cond_eq, cond_ne, false_xor}

-- ---- signs

pub turned_twice : (a b : Bool) (x : ℤ) → turned a (turned b x) ≡ turned (xor a b) x
unfolding xor
turned_twice true true x = omega (arith, ints)
turned_twice true false x = refl
turned_twice false true x = refl
turned_twice false false x = refl

pub turned_zero : (a : Bool) (x : ℤ) → x ≡ pos 0 → turned a x ≡ pos 0
turned_zero true x e = omega (arith, ints)
turned_zero false x e = e

pub zero_turned : (a : Bool) (x : ℤ) → turned a x ≡ pos 0 → x ≡ pos 0
zero_turned true x e = omega (arith, ints)
zero_turned false x e = e

-- ---- a list that holds: the signs beside a root that is not fixed

pub Each-map : (f : ℕ → ℤ) (s n : ℕ) → ((i : ℕ) → IsSmall (f i)) → Each IsSmall (map f (count_from s n))
Each-map f s zero h = tt
Each-map f s (suc n) h = (h s, Each-map f (suc s) n h)

pub signs : ℕ → Labels → ℕ → Bool → List ℤ
signs n l root opposite = map (sign_beside l root opposite) (count_from 0 n)

pub sign_entry : (n : ℕ) (l : Labels) (root : ℕ) (opposite : Bool) (i : ℕ) → i < n → entry (signs n l root opposite) i ≡ sign_beside l root opposite i
unfolding signs
sign_entry n l root opposite i li = at_place (sign_beside l root opposite) n i li

pub small_sign : (l : Labels) (root : ℕ) (opposite : Bool) (i : ℕ) → IsSmall (sign_beside l root opposite i)
small_sign l root opposite i = go (eqb (l.root i) root) (beq (l.opposite i) opposite)
  where
    go : (a b : Bool) → IsSmall (cond a (cond b (pos 1) (negsuc 0)) (pos 0))
    go true true = inr (inr refl)
    go true false = inl refl
    go false b = inr (inl refl)

pub sign_elsewhere : (l : Labels) (root : ℕ) (opposite : Bool) (i : ℕ) → l.root i ≢ root → sign_beside l root opposite i ≡ pos 0
sign_elsewhere l root opposite i ne = cond_ne (l.root i) root (cond (beq (l.opposite i) opposite) (pos 1) (negsuc 0)) (pos 0) ne

pub sign_here : (l : Labels) (root : ℕ) (opposite : Bool) (i : ℕ) → l.root i ≡ root → sign_beside l root opposite i ≡ turned (l.opposite i) (turned opposite (pos 1))
sign_here l root opposite i e = cond_eq (l.root i) root (cond (beq (l.opposite i) opposite) (pos 1) (negsuc 0)) (pos 0) e ∙ go (l.opposite i) opposite
  where
    go : (a b : Bool) → cond (beq a b) (pos 1) (negsuc 0) ≡ turned a (turned b (pos 1))
    go true true = refl
    go true false = refl
    go false true = refl
    go false false = refl

-- the roots of a change
abbrev pub AreRoots : ℕ → Labels → Change → Type 0
AreRoots n l (Fix r) = (r < n) × (l.root r ≡ r)
AreRoots n l (Join c p b) = (c < n) × (p < n) × (l.root c ≡ c) × (l.root p ≡ p) × (c ≢ p)

module _ (n : ℕ) (kept : List Link) (l : Labels) (are : AreLabels n kept l) where
  pub signs_hold : (root : ℕ) (opposite : Bool) → l.fixed root ≡ false → Holds n l (signs n l root opposite)
  unfolding signs
  signs_hold root opposite free = record {
    long = length-map (count_from 0 n) f ∙ length-count_from 0 n;
    small = Each-map f 0 n (small_sign l root opposite);
    tied = λ i li. at_place f n i li ∙ tied i li ∙ ap (turned (l.opposite i)) (sym (at_place f n (l.root i) (are.below i li)));
    zero = λ i li z. at_place f n i li ∙ sign_elsewhere l root opposite i (λ e. false≢true (sym free ∙ ap l.fixed (sym e) ∙ z));
  }
    where
      f : ℕ → ℤ
      f = sign_beside l root opposite

      tied : (i : ℕ) → i < n → f i ≡ turned (l.opposite i) (f (l.root i))
      tied i li = ⊎_elim
          (λ (e : l.root i ≡ root). sign_here l root opposite i e ∙ ap (turned (l.opposite i)) (ap (λ (b : Bool). turned b (turned opposite (pos 1))) (sym (are.same i li)) ∙ sym (sign_here l root opposite (l.root i) (are.again i li ∙ e))))
          (λ (e : l.root i ≢ root). sign_elsewhere l root opposite i e ∙ sym (turned_zero (l.opposite i) (f (l.root i)) (sign_elsewhere l root opposite (l.root i) (λ z. e (sym (are.again i li) ∙ z)))))
          (cases_eq (l.root i) root)

  -- the sign at a root
  pub sign_at : (root : ℕ) → root < n → l.root root ≡ root → entry (signs n l root false) root ≡ pos 1
  unfolding signs
  sign_at root lt e = at_place (sign_beside l root false) n root lt ∙ sign_here l root false root e ∙ ap (λ (b : Bool). turned b (pos 1)) (ap l.opposite (sym e) ∙ are.same root lt)

  pub sign_off : (root i : ℕ) → i < n → l.root i ≢ root → entry (signs n l root false) i ≡ pos 0
  unfolding signs
  sign_off root i lt ne = at_place (sign_beside l root false) n i lt ∙ sign_elsewhere l root false i ne

  -- ---- free places and what follows

  pub free_labels : (i : ℕ) → i < n → is_free n kept i ≡ not (is_fixed l i)
  unfolding signs
  free_labels i li = ⊎_elim
      (λ (e : is_fixed l i ≡ true). false_from_ne_true (is_free n kept i) (λ (f : is_free n kept i ≡ true).
      let a = (free_is n kept i).0 f in
      one_not_zero (sym a.2 ∙ ((are.suits a.0).0 a.1).zero i li e)) ∙ sym (ap not e))
      (λ (e : is_fixed l i ≡ false). (free_is n kept i).1 (signs n l (l.root i) (l.opposite i), (are.suits (signs n l (l.root i) (l.opposite i))).1 (signs_hold (l.root i) (l.opposite i) e), at_place (sign_beside l (l.root i) (l.opposite i)) n i li ∙ sign_here l (l.root i) (l.opposite i) i refl ∙ plus (l.opposite i)) ∙ sym (ap not e))
      (cases_Bool (is_fixed l i))
    where
      plus : (b : Bool) → turned b (turned b (pos 1)) ≡ pos 1
      plus true = refl
      plus false = refl

  pub follows_true : (link : Link) → Does n l (λ xs. Suits xs link) Follows → follows n kept link ≡ true
  follows_true link d = (follows_is n kept link).1 (λ xs s. d xs ((are.suits xs).0 s))

  pub follows_false : (link : Link) (change : Change) → AreRoots n l change → Does n l (λ xs. Suits xs link) (Changes change) → follows n kept link ≡ false
  follows_false link change roots d = false_from_ne_true (follows n kept link) (λ e. go change roots d.0 (λ xs h. (d.1 xs h).0 ((follows_is n kept link).0 e xs ((are.suits xs).1 h))))
    where
      one_turned : (b : Bool) (x y : ℤ) → x ≡ pos 1 → y ≡ pos 0 → x ≡ turned b y → ⊥
      one_turned true x y p q e = omega (arith, ints)
      one_turned false x y p q e = omega (arith, ints)

      zero_one : (b : Bool) (x y : ℤ) → x ≡ pos 0 → y ≡ pos 1 → x ≡ turned b y → ⊥
      zero_one true x y p q e = omega (arith, ints)
      zero_one false x y p q e = omega (arith, ints)

      go : (change : Change) → AreRoots n l change → IsNews change l → ((xs : List ℤ) → Holds n l xs → Asks change xs) → ⊥
      go (Fix r) a news all = one_not_zero (sym (sign_at r a.0 a.1) ∙ all (signs n l r false) (signs_hold r false news))
      go (Join c p b) a news all = ⊎_elim
          (λ (f : l.fixed c ≡ false). one_turned b (entry (signs n l c false) c) (entry (signs n l c false) p) (sign_at c a.0 a.2) (sign_off c p a.1 (λ z. a.4 (sym z ∙ a.3))) (all (signs n l c false) (signs_hold c false f)))
          (λ (f : l.fixed p ≡ false). zero_one b (entry (signs n l p false) c) (entry (signs n l p false) p) (sign_off p c a.0 (λ z. a.4 (sym a.2 ∙ z))) (sign_at p a.1 a.3) (all (signs n l p false) (signs_hold p false f)))
          (and_cases (l.fixed c) (l.fixed p) news)

  -- ---- one more link

  suits_more : (link : Link) (xs : List ℤ) → SuitsAll n (kept ++ link ∷ []) xs ↔ (SuitsAll n kept xs × Suits xs link)
  suits_more link xs = (
    (λ s. (record { long = s.long; small = s.small; all = λ x k. s.all x (append_left x kept (link ∷ []) k) }, s.all link (append_right link kept (link ∷ []) (inl refl)))),
    (λ s. record { long = s.0.long; small = s.0.small; all = λ x k. ⊎_elim (λ z. s.0.all x z) (last s.1 x) (IsIn-append x kept (link ∷ []) k) }),
  )
    where
      last : Suits xs link → (x : Link) → IsIn x (link ∷ []) → Suits xs x
      last t x (inl q) = subst (Suits xs) q t
      last t x (inr z) = absurd z

  -- labels under which the lists that hold are those with what a change asks
  with_asked : (link : Link) (change : Change) (more : Labels) → ((xs : List ℤ) → Holds n l xs → Suits xs link ↔ Asks change xs) → ((xs : List ℤ) → Holds n more xs ↔ (Holds n l xs × Asks change xs)) → (xs : List ℤ) → SuitsAll n (kept ++ link ∷ []) xs ↔ Holds n more xs
  with_asked link change more same holds xs = (
    (λ s. let a = (suits_more link xs).0 s in let h = (are.suits xs).0 a.0 in (holds xs).1 (h, (same xs h).0 a.1)),
    (λ h. let a = (holds xs).0 h in (suits_more link xs).1 ((are.suits xs).1 a.0, (same xs a.0).1 a.1)),
  )

  holds_fix : (r : ℕ) → r < n → l.root r ≡ r → (xs : List ℤ) → Holds n (relabelled (Fix r) l) xs ↔ (Holds n l xs × (entry xs r ≡ pos 0))
  holds_fix r lt e xs = (
    (λ h. (record { long = h.long; small = h.small; tied = h.tied; zero = λ i li z. h.zero i li (or_right (eqb (l.root i) r) (l.fixed (l.root i)) z) }, h.zero r lt (or_left (eqb (l.root r) r) (l.fixed (l.root r)) (eq-eqb (l.root r) r e)))),
    (λ h. record {
      long = h.0.long;
      small = h.0.small;
      tied = h.0.tied;
      zero = λ i li z. ⊎_elim
          (λ (t : eqb (l.root i) r ≡ true). h.0.tied i li ∙ turned_zero (l.opposite i) (entry xs (l.root i)) (ap (entry xs) (eqb-true (l.root i) r t) ∙ h.1))
          (λ (t : l.fixed (l.root i) ≡ true). h.0.zero i li t)
          (or_cases (eqb (l.root i) r) (l.fixed (l.root i)) z);
    }),
  )

  module _ (c p : ℕ) (b : Bool) (roots : AreRoots n l (Join c p b)) where
    joined : Labels
    joined = relabelled (Join c p b) l

    apart : l.root p ≢ c
    apart e = roots.4 (sym e ∙ roots.3)

    root_under : (i : ℕ) → l.root i ≡ c → joined.root i ≡ p
    unfolding joined
    root_under i e = cond_eq (l.root i) c p (l.root i) e

    root_off : (i : ℕ) → l.root i ≢ c → joined.root i ≡ l.root i
    unfolding joined
    root_off i ne = cond_ne (l.root i) c p (l.root i) ne

    root_top : joined.root p ≡ p
    root_top = root_off p apart ∙ roots.3

    opposite_under : (i : ℕ) → l.root i ≡ c → joined.opposite i ≡ xor (l.opposite i) b
    unfolding joined
    opposite_under i e = cond_eq (l.root i) c (xor (l.opposite i) b) (l.opposite i) e

    opposite_off : (i : ℕ) → l.root i ≢ c → joined.opposite i ≡ l.opposite i
    unfolding joined
    opposite_off i ne = cond_ne (l.root i) c (xor (l.opposite i) b) (l.opposite i) ne

    same_at : (r : ℕ) → r < n → l.root r ≡ r → l.opposite r ≡ false
    same_at r lt e = ap l.opposite (sym e) ∙ are.same r lt

    fixed_top : joined.fixed p ≡ (l.fixed p || l.fixed c)
    unfolding joined
    fixed_top = cond_eq p p (l.fixed p || l.fixed c) (l.fixed p) refl

    fixed_off : (q : ℕ) → q ≢ p → joined.fixed q ≡ l.fixed q
    unfolding joined
    fixed_off q ne = cond_ne q p (l.fixed p || l.fixed c) (l.fixed q) ne

    below_join : (i : ℕ) → i < n → joined.root i < n
    below_join i li = ⊎_elim
        (λ (e : l.root i ≡ c). subst (λ (j : ℕ). j < n) (sym (root_under i e)) roots.1)
        (λ (e : l.root i ≢ c). subst (λ (j : ℕ). j < n) (sym (root_off i e)) (are.below i li))
        (cases_eq (l.root i) c)

    again_join : (i : ℕ) → i < n → joined.root (joined.root i) ≡ joined.root i
    again_join i li = ⊎_elim
        (λ (e : l.root i ≡ c). ap joined.root (root_under i e) ∙ root_top ∙ sym (root_under i e))
        (λ (e : l.root i ≢ c). ap joined.root (root_off i e) ∙ root_off (l.root i) (λ z. e (sym (are.again i li) ∙ z)) ∙ are.again i li ∙ sym (root_off i e))
        (cases_eq (l.root i) c)

    same_join : (i : ℕ) → i < n → joined.opposite (joined.root i) ≡ false
    same_join i li = ⊎_elim
        (λ (e : l.root i ≡ c). ap joined.opposite (root_under i e) ∙ opposite_off p apart ∙ same_at p roots.1 roots.3)
        (λ (e : l.root i ≢ c). ap joined.opposite (root_off i e) ∙ opposite_off (l.root i) (λ z. e (sym (are.again i li) ∙ z)) ∙ are.same i li)
        (cases_eq (l.root i) c)

    holds_join : (xs : List ℤ) → Holds n joined xs ↔ (Holds n l xs × (entry xs c ≡ turned b (entry xs p)))
    holds_join xs = (apart_from, together)
      where
        apart_from : Holds n joined xs → Holds n l xs × (entry xs c ≡ turned b (entry xs p))
        apart_from h = (record { long = h.long; small = h.small; tied = tied; zero = zero }, bound)
          where
            bound : entry xs c ≡ turned b (entry xs p)
            bound = h.tied c roots.0 ∙ ap₂ turned (opposite_under c roots.2 ∙ ap (λ (u : Bool). xor u b) (same_at c roots.0 roots.2) ∙ false_xor b) (ap (entry xs) (root_under c roots.2))

            tied : (i : ℕ) → i < n → entry xs i ≡ turned (l.opposite i) (entry xs (l.root i))
            tied i li = ⊎_elim
                (λ (e : l.root i ≡ c). h.tied i li ∙ ap₂ turned (opposite_under i e) (ap (entry xs) (root_under i e)) ∙ sym (turned_twice (l.opposite i) b (entry xs p)) ∙ ap (turned (l.opposite i)) (sym bound ∙ ap (entry xs) (sym e)))
                (λ (e : l.root i ≢ c). h.tied i li ∙ ap₂ turned (opposite_off i e) (ap (entry xs) (root_off i e)))
                (cases_eq (l.root i) c)

            zero : (i : ℕ) → i < n → l.fixed (l.root i) ≡ true → entry xs i ≡ pos 0
            zero i li z = ⊎_elim
                (λ (e : l.root i ≡ c). h.zero i li (ap joined.fixed (root_under i e) ∙ fixed_top ∙ or_right (l.fixed p) (l.fixed c) (ap l.fixed (sym e) ∙ z)))
                (λ (e : l.root i ≢ c). h.zero i li (ap joined.fixed (root_off i e) ∙ ⊎_elim
                (λ (f : l.root i ≡ p). ap joined.fixed f ∙ fixed_top ∙ or_left (l.fixed p) (l.fixed c) (ap l.fixed (sym f) ∙ z))
                (λ (f : l.root i ≢ p). fixed_off (l.root i) f ∙ z)
                (cases_eq (l.root i) p)))
                (cases_eq (l.root i) c)

        together : Holds n l xs × (entry xs c ≡ turned b (entry xs p)) → Holds n joined xs
        together h = record { long = h.0.long; small = h.0.small; tied = tied; zero = zero }
          where
            tied : (i : ℕ) → i < n → entry xs i ≡ turned (joined.opposite i) (entry xs (joined.root i))
            tied i li = ⊎_elim
                (λ (e : l.root i ≡ c). h.0.tied i li ∙ ap (turned (l.opposite i)) (ap (entry xs) e ∙ h.1) ∙ turned_twice (l.opposite i) b (entry xs p) ∙ ap₂ turned (sym (opposite_under i e)) (ap (entry xs) (sym (root_under i e))))
                (λ (e : l.root i ≢ c). h.0.tied i li ∙ ap₂ turned (sym (opposite_off i e)) (ap (entry xs) (sym (root_off i e))))
                (cases_eq (l.root i) c)

            zero_c : l.fixed c ≡ true → entry xs c ≡ pos 0
            zero_c f = h.0.zero c roots.0 (ap l.fixed roots.2 ∙ f)

            zero_p : l.fixed p ≡ true → entry xs p ≡ pos 0
            zero_p f = h.0.zero p roots.1 (ap l.fixed roots.3 ∙ f)

            both : (l.fixed p || l.fixed c) ≡ true → (entry xs c ≡ pos 0) × (entry xs p ≡ pos 0)
            both f = ⊎_elim
                (λ (u : l.fixed p ≡ true). (h.1 ∙ turned_zero b (entry xs p) (zero_p u), zero_p u))
                (λ (u : l.fixed c ≡ true). (zero_c u, zero_turned b (entry xs p) (sym h.1 ∙ zero_c u)))
                (or_cases (l.fixed p) (l.fixed c) f)

            zero : (i : ℕ) → i < n → joined.fixed (joined.root i) ≡ true → entry xs i ≡ pos 0
            zero i li z = ⊎_elim
                (λ (e : l.root i ≡ c). h.0.tied i li ∙ turned_zero (l.opposite i) (entry xs (l.root i)) (ap (entry xs) e ∙ (both (sym (ap joined.fixed (root_under i e) ∙ fixed_top) ∙ z)).0))
                (λ (e : l.root i ≢ c). ⊎_elim
                (λ (f : l.root i ≡ p). h.0.tied i li ∙ turned_zero (l.opposite i) (entry xs (l.root i)) (ap (entry xs) f ∙ (both (sym (ap joined.fixed (root_off i e ∙ f) ∙ fixed_top) ∙ z)).1))
                (λ (f : l.root i ≢ p). h.0.zero i li (sym (ap joined.fixed (root_off i e) ∙ fixed_off (l.root i) f) ∙ z))
                (cases_eq (l.root i) p))
                (cases_eq (l.root i) c)

  -- the labels after a change are those of one more link
  pub labels_more : (link : Link) (change : Change) → AreRoots n l change → Does n l (λ xs. Suits xs link) (Changes change) → AreLabels n (kept ++ link ∷ []) (relabelled change l)
  unfolding joined
  labels_more link (Fix r) roots d = record { below = are.below; again = are.again; same = are.same; suits = with_asked link (Fix r) (relabelled (Fix r) l) d.1 (holds_fix r roots.0 roots.1) }
  labels_more link (Join c p b) roots d = record { below = below_join c p b roots; again = again_join c p b roots; same = same_join c p b roots; suits = with_asked link (Join c p b) (relabelled (Join c p b) l) d.1 (holds_join c p b roots) }
