-- Links with the places of the new cube: what suits them, and what follows from them.
use Rattle.std.proofs.Common.{◌≡◌, ℕ, ◌<◌, inl, inr, true, not, ◌&&◌, List, [], ◌∷◌, ◌++◌, length, map, filter, Option, Some, None, ℤ, ◌+ℤ◌, refl, sym, ap, ap₂, ◌∙◌, subst, arith, ltb, eqb, eqb-true, eq-eqb}
use Rattle.std.proofs.lemmas.Bool.{false≢true, and_parts, and_from, lt-ltb, ltb-true, false_from_ne_true, not_from_false, not-true}
use Rattle.cube_model.specs.declared.entry.Entry.{Entry}
use Rattle.cube_model.specs.declared.entry.Entry.TheVariants.{Linked}
use Rattle.cube_model.specs.declared.link.Link.{Link}
use Rattle.cube_model.specs.declared.link.Link.TheVariants.{Pair, Single}
use Rattle.cube_model.specs.declared.policy.Method.TheVariants.{Parity}
use Rattle.cube_model.specs.Cubes.{Public, places, count_from, IsIn}
use Rattle.cube_model.specs.Protection.{method, first, is_parity}
use Rattle.cube_model.specs.Links.{basis, follows}
use Rattle.cube_model.specs.Entries.{is_allowed, is_link}
use Rattle.cube_model.specs.Verdicts.{links_of, IsAdmissible}
use Rattle.cube_model.specs.Twins.{with_first}
use Rattle.cube_model.specs.Compaction.{compacted_by, compacted_on, compacted}
use Rattle.cube_model.specs.LinkLaws.{SuitsAll, entry}
use Rattle.cube_model.proofs.Compacts.{Fresh, compacted_admissible}
use Rattle.cube_model.proofs.FixedPlaces.{small_entry}
use Rattle.cube_model.proofs.Histories.{admissible_allowed, Each-at}
use Rattle.cube_model.proofs.LinkFacts.{follows_is}
use Rattle.cube_model.proofs.Members.{IsIn-filter, filter_has, first_of, map_has, flat_map_has, IsIn-map, count_from_has}
use Rattle.cube_model.proofs.Leasts.{in_places}
use Rattle.cube_model.proofs.Parities.{Suits, IsOf, IsSmall, link_places, suits_what_follows}
use Rattle.cube_model.proofs.Sources.{place_below}
use Rattle.cube_model.proofs.Worlds.{in_list}
use Rattle.cube_carry.specs.Names.{Named, known, carried_place, carried_link}
use Rattle.cube_carry.proofs.Leaving.{as_list, as_function}

-- the places of the old cube are other places of the new one
pub record AreApart (a b : Named) : Type 0 where
  pub below : (i : ℕ) → i < length a.shape.points → carried_place a b i < length b.shape.points
  pub apart : (i j : ℕ) → i < length a.shape.points → j < length a.shape.points → carried_place a b i ≡ carried_place a b j → i ≡ j

abbrev pub AreLinked : ℕ → List Link → Type 0
AreLinked n ls = (l : Link) → IsIn l ls → is_link n l ≡ true

-- a link of the basis is in range, and differs in a pair
pub basis_linked : (g : Public) (h : List Entry) (m : ℕ) → IsAdmissible g h → method g m ≡ Parity → AreLinked (length g.shape.points) (basis (length g.shape.points) (links_of g h m))
unfolding is_allowed
basis_linked g h m adm way l k = (and_parts (is_parity (method g m)) (is_link (length g.shape.points) l) allowed).1
  where
    below : m < length g.policy.methods
    below = in_list g.policy.methods m (λ p. false≢true (sym (ap is_parity p) ∙ ap is_parity way))

    among : IsIn (Linked m l) (compacted g h)
    among = flat_map_has (compacted_on g h) m (Linked m l) (count_from 0 (length g.policy.methods)) (count_from_has m 0 (length g.policy.methods) (omega arith) (omega (arith, below)))
        (subst (λ w. IsIn (Linked m l) (compacted_by w g h m)) (sym way) (map_has (Linked m) l (basis (length g.shape.points) (links_of g h m)) k))

    allowed : is_allowed g (Linked m l) ≡ true
    allowed = Each-at (λ e. is_allowed g e ≡ true) (Linked m l) (compacted g h) (admissible_allowed g [] (compacted g h) (compacted_admissible g h adm)) among

module _ (a b : Named) (parted : AreApart a b) where
  abbrev n : ℕ
  n = length a.shape.points

  abbrev n' : ℕ
  n' = length b.shape.points

  abbrev f : ℕ → ℕ
  f = carried_place a b

  abbrev F : Link → Link
  F = carried_link a b

  -- what old places have, and nothing at new ones
  pub spread : (ℕ → ℤ) → ℕ → ℤ
  spread s p = with_first (λ i q. s i) (first (filter (λ i. eqb (f i) p) (places (known a)))) p

  pub spread_at : (s : ℕ → ℤ) (i : ℕ) → i < n → spread s (f i) ≡ s i
  unfolding spread
  spread_at s i h = ap (λ o. with_first (λ i q. s i) o (f i)) found.1 ∙ ap s (parted.apart found.0 i (place_below (known a) found.0 passes.1) h (eqb-true (f found.0) (f i) passes.0))
    where
      found : (y : ℕ) × (first (filter (λ j. eqb (f j) (f i)) (places (known a))) ≡ Some y) × IsIn y (filter (λ j. eqb (f j) (f i)) (places (known a)))
      found = first_of i (filter (λ j. eqb (f j) (f i)) (places (known a))) (filter_has (λ j. eqb (f j) (f i)) i (places (known a)) (eq-eqb (f i) (f i) refl) (in_places (known a) i h))

      passes : (eqb (f found.0) (f i) ≡ true) × IsIn found.0 (places (known a))
      passes = IsIn-filter (λ j. eqb (f j) (f i)) found.0 (places (known a)) found.2

  pub spread_small : (s : ℕ → ℤ) → ((i : ℕ) → IsSmall (s i)) → (p : ℕ) → IsSmall (spread s p)
  unfolding spread
  spread_small s small p = go (first (filter (λ i. eqb (f i) p) (places (known a))))
    where
      go : (o : Option ℕ) → IsSmall (with_first (λ i q. s i) o p)
      go None = inr (inl refl)
      go (Some i) = small i

  pub places_carried : (l : Link) → IsOf (λ i. i < n) l → IsOf (λ i. i < n') (F l)
  places_carried (Pair i j) h = (parted.below i h.0, parted.below j h.1)
  places_carried (Single i) h = parted.below i h

  -- a function of the new places suits a carried link exactly where what it has at old ones suits the link
  pub suits_there : (φ s : ℕ → ℤ) (l : Link) → ((i : ℕ) → i < n → φ (f i) ≡ s i) → IsOf (λ i. i < n) l → Suits s l → Suits φ (F l)
  suits_there φ s (Pair i j) e h t = ap₂ (λ x y. x +ℤ y) (e i h.0) (e j h.1) ∙ t
  suits_there φ s (Single i) e h t = e i h ∙ t

  pub suits_here : (φ s : ℕ → ℤ) (l : Link) → ((i : ℕ) → i < n → φ (f i) ≡ s i) → IsOf (λ i. i < n) l → Suits φ (F l) → Suits s l
  suits_here φ s (Pair i j) e h t = ap₂ (λ x y. x +ℤ y) (sym (e i h.0)) (sym (e j h.1)) ∙ t
  suits_here φ s (Single i) e h t = sym (e i h) ∙ t

  pub link_there : (l : Link) → is_link n l ≡ true → is_link n' (F l) ≡ true
  link_there (Pair i j) e = and_from (ltb (f i) n' && ltb (f j) n') (not (eqb (f i) (f j)))
      (and_from (ltb (f i) n') (ltb (f j) n') (lt-ltb (f i) n' (parted.below i (ltb-true i n parts.0.0))) (lt-ltb (f j) n' (parted.below j (ltb-true j n parts.0.1))))
      (not_from_false (eqb (f i) (f j)) (false_from_ne_true (eqb (f i) (f j)) (λ t. false≢true (sym (not-true (eqb i j) parts.1) ∙ eq-eqb i j (parted.apart i j (ltb-true i n parts.0.0) (ltb-true j n parts.0.1) (eqb-true (f i) (f j) t))))))
    where
      parts : ((ltb i n ≡ true) × (ltb j n ≡ true)) × (not (eqb i j) ≡ true)
      parts = let p = and_parts (ltb i n && ltb j n) (not (eqb i j)) e in (and_parts (ltb i n) (ltb j n) p.0, p.1)
  link_there (Single i) e = lt-ltb (f i) n' (parted.below i (ltb-true i n e))

  -- a link follows from others where it does so in the new cube
  pub follows_here : (kept : List Link) (l : Link) → AreLinked n kept → is_link n l ≡ true → follows n' (map F kept) (F l) ≡ true → follows n kept l ≡ true
  follows_here kept l linked here e = (follows_is n kept l).1 (λ xs s. as_list xs l (suits_here (spread (entry xs)) (entry xs) l (spread_at (entry xs)) (link_places n l here)
      (suits_what_follows (spread (entry xs)) n' (map F kept) (F l)
      (spread_small (entry xs) (λ i. small_entry xs i s.small))
      (λ k z. place_of k (IsIn-map F k kept z))
      (λ k z. suit xs s k (IsIn-map F k kept z))
      (places_carried l (link_places n l here))
      e)))
    where
      place_of : (k : Link) → (x : Link) × (IsIn x kept) × (F x ≡ k) → IsOf (λ i. i < n') k
      place_of k r = subst (IsOf (λ i. i < n')) r.2 (places_carried r.0 (link_places n r.0 (linked r.0 r.1)))

      suit : (xs : List ℤ) → SuitsAll n kept xs → (k : Link) → (x : Link) × (IsIn x kept) × (F x ≡ k) → Suits (spread (entry xs)) k
      suit xs s k r = subst (Suits (spread (entry xs))) r.2 (suits_there (spread (entry xs)) (entry xs) r.0 (spread_at (entry xs)) (link_places n r.0 (linked r.0 r.1)) (as_function xs r.0 (s.all r.0 r.1)))

  map-push : (kept : List Link) (l : Link) → map F (kept ++ l ∷ []) ≡ map F kept ++ F l ∷ []
  map-push [] l = refl
  map-push (x ∷ kept) l = ap (λ ks. F x ∷ ks) (map-push kept l)

  linked_more : (kept : List Link) (l : Link) → AreLinked n kept → is_link n l ≡ true → AreLinked n (kept ++ l ∷ [])
  linked_more [] l a h k (inl e) = subst (λ x. is_link n x ≡ true) e h
  linked_more [] l a h k (inr z) = absurd z
  linked_more (x ∷ kept) l a h k (inl e) = a k (inl e)
  linked_more (x ∷ kept) l a h k (inr z) = linked_more kept l (λ y w. a y (inr w)) h k z

  -- no carried link follows from those before it
  pub fresh_there : (kept ls : List Link) → AreLinked n kept → AreLinked n ls → Fresh n kept ls → Fresh n' (map F kept) (map F ls)
  fresh_there kept [] p q h = tt
  fresh_there kept (l ∷ ls) p q h = (
    false_from_ne_true (follows n' (map F kept) (F l)) (λ t. false≢true (sym h.0 ∙ follows_here kept l p (q l (inl refl)) t)),
    subst (λ ks. Fresh n' ks (map F ls)) (map-push kept l) (fresh_there (kept ++ l ∷ []) ls (linked_more kept l p (q l (inl refl))) (λ k z. q k (inr z)) h.1),
  )
