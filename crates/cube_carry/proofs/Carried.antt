-- The carried history: what it has on each measure, and that it is admissible.
use Rattle.std.proofs.Common.{◌≡◌, ℕ, ◌<◌, ◌≤◌, ◌⊎◌, inl, inr, true, not, List, [], ◌∷◌, length, map, filter, flat_map, is_none, Option, Some, None, ℤ, refl, sym, ap, ◌∙◌, subst, arith, append-nil, ⊎_elim}
use Rattle.std.proofs.lemmas.Bool.{false≢true, and_parts, and_from, not-false}
use Rattle.cube_model.specs.declared.entry.Entry.{Entry}
use Rattle.cube_model.specs.declared.entry.Entry.TheVariants.{Linked}
use Rattle.cube_model.specs.declared.link.Link.{Link}
use Rattle.cube_model.specs.declared.policy.Method.{Method}
use Rattle.cube_model.specs.declared.policy.Method.TheVariants.{Plain, Lattice, Parity}
use Rattle.cube_model.specs.Cubes.{is_finer, are_levels, cuboids_below, count_from, IsIn}
use Rattle.cube_model.specs.Dims.{plains}
use Rattle.cube_model.specs.Protection.{method, uncut, guarded, is_lattice}
use Rattle.cube_model.specs.Links.{basis, suiting, has_plus, is_free}
use Rattle.cube_model.specs.Entries.{on, is_link, is_allowed}
use Rattle.cube_model.specs.Verdicts.{source, links_of, fixed_by, AdmissibleFrom, IsAdmissible}
use Rattle.cube_model.specs.Compaction.{source_entry}
use Rattle.cube_model.proofs.Compacts.{basis_fresh, source_nothing, source_in_range, InRange}
use Rattle.cube_model.proofs.Histories.{AreAllowed, admissible_allowed, cuts_from_uncut, CutsAll}
use Rattle.cube_model.proofs.Members.{IsIn-filter, IsIn-map, flat_map_has, count_from_has, find_none}
use Rattle.cube_model.proofs.Objects.{below_finer}
use Rattle.cube_model.proofs.Parities.{AllFree}
use Rattle.cube_model.proofs.Worlds.{in_list}
use Rattle.cube_carry.specs.Names.{Named, known, IsNamed, measure_in, carried_levels, carried_link}
use Rattle.cube_carry.specs.Continues.{Continues}
use Rattle.cube_carry.specs.Carrying.{carried_links, keeps_apart, can_stand, last, source_for, carried_source, carried_by, carried_on, carried_history, unless_found, unless_free, stops_by, IsCarried}
use Rattle.cube_carry.specs.Carrying.Stop.{NoSource}
use Rattle.cube_carry.specs.TwoLives.{CarriedIsAdmissible}
use Rattle.cube_carry.proofs.Embeds.{place_there, places_apart, carried_in_range}
use Rattle.cube_carry.proofs.Entries.{AllOn, linked_on, source_on, on_within, admissible_by_measure, source_taken, links_admissible}
use Rattle.cube_carry.proofs.Measures.{Had, had, is_controlled, no_links}
use Rattle.cube_carry.proofs.Orders.{finer_in_range, levels_at, length-plains}
use Rattle.cube_carry.proofs.Spread.{AreApart, AreLinked, basis_linked, link_there, fresh_there}
use Rattle.cube_model.proofs.Bases.{below_or}

-- ---- lists
pub last_in : {X : Type 0} (x : X) (xs : List X) → last xs ≡ Some x → IsIn x xs
last_in x [] e = absurd (cc)
last_in x (y ∷ []) e = inl (cc)
last_in x (y ∷ z ∷ zs) e = inr (last_in x (z ∷ zs) e)

nothing_within : {X Y : Type 0} (f : X → List Y) (x : X) (xs : List X) → flat_map f xs ≡ [] → IsIn x xs → f x ≡ []
nothing_within f x xs e h = go (f x) refl
  where
    go : (ys : List _) → f x ≡ ys → f x ≡ []
    go [] q = q
    go (y ∷ ys) q = absurd (subst (IsIn y) e (flat_map_has f x y xs h (subst (IsIn y) (sym q) (inl refl))))

-- ---- the source that is carried
pub record Stands (a b : Named) (m : ℕ) (o : Option (List ℕ)) (c : List ℕ) : Type 0 where
  pub old : List ℕ
  pub is_old : o ≡ Some old
  pub finer : is_finer c (carried_levels a.dims b.dims old) ≡ true
  pub cuts : CutsAll (known b) c m
  pub apart : keeps_apart a b c ≡ true

none_is : {X : Type 0} (o : Option X) → is_none o ≡ true → o ≡ None
none_is None e = refl
none_is (Some x) e = absurd (false≢true e)

pub source_stands : (a b : Named) (m : ℕ) (o : Option (List ℕ)) (c : List ℕ) → source_for a b m o ≡ Some c → Stands a b m o c
source_stands a b m None c e = absurd (cc)
source_stands a b m (Some s) c e = record {
  old = s;
  is_old = refl;
  finer = below_finer (carried_levels a.dims b.dims s) c kept.1;
  cuts = cuts_from_uncut (known b) c m (none_is (uncut (known b) c m) parts.0);
  apart = parts.1;
}
  where
    kept : (can_stand a b m c ≡ true) × IsIn c (cuboids_below (carried_levels a.dims b.dims s))
    kept = IsIn-filter (can_stand a b m) c (cuboids_below (carried_levels a.dims b.dims s)) (last_in c (filter (can_stand a b m) (cuboids_below (carried_levels a.dims b.dims s))) e)

    parts : (is_none (uncut (known b) c m) ≡ true) × (keeps_apart a b c ≡ true)
    parts = and_parts (is_none (uncut (known b) c m)) (keeps_apart a b c) kept.0

carried_by_on : (way : Method) (a b : Named) (h : List Entry) (m : ℕ) → AllOn m (carried_by way a b h m)
carried_by_on Plain a b h m = tt
carried_by_on Lattice a b h m = source_on m (carried_source a b h m)
carried_by_on Parity a b h m = linked_on m (carried_links a b h m)

each_carried : (a b : Named) (h : List Entry) (m : ℕ) → AllOn m (carried_on a b h m)
each_carried a b h m = carried_by_on (method (known b) m) a b h m

-- what the carried history has on a measure
pub carried_there : (a b : Named) (h : List Entry) (m : ℕ) → (method (known b) m ≡ Plain → ⊥) → on m (carried_history a b h) ≡ carried_on a b h m
carried_there a b h m way = let l : m < length b.policy.methods = in_list b.policy.methods m way in on_within (carried_on a b h) (each_carried a b h) m 0 (length b.policy.methods) (omega arith) (omega (arith, l))

-- ---- what the carried history holds
module _ (a b : Named) (old new : List (List ℤ)) (h : List Entry) (na : IsNamed a old) (nb : IsNamed b new) (co : Continues a b) (adm : IsAdmissible (known a) h) (free : IsCarried a b h) where
  pub are_apart : AreApart a b
  are_apart = record { below = place_there a b old new na nb co; apart = places_apart a b old new na nb co }

  pub all : AreAllowed (known a) h
  all = admissible_allowed (known a) [] h adm

  -- the measure of the old cube, or none
  pub old_measure : (m : ℕ) → (method (known b) m ≡ Plain → ⊥) → Had a b m ⊎ (length a.policy.methods ≤ measure_in b.dims a.dims m)
  old_measure m way = ⊎_elim (λ l. inl (had a b new m nb co (is_controlled b new m nb way) l)) (λ l. inr (let e = na.methods in omega (arith, e, l))) (below_or (measure_in b.dims a.dims m) (length a.dims.measures))

  pub linked_old : (m : ℕ) → method (known b) m ≡ Parity → AreLinked (length a.shape.points) (basis (length a.shape.points) (links_of (known a) h (measure_in b.dims a.dims m)))
  linked_old m way = ⊎_elim
      (λ x. basis_linked (known a) h (measure_in b.dims a.dims m) adm (x.way ∙ way))
      (λ l. subst (λ ls. AreLinked (length a.shape.points) (basis (length a.shape.points) ls)) (sym (no_links (known a) (measure_in b.dims a.dims m) h all l)) (λ x k. absurd k))
      (old_measure m (λ p. absurd (cc)))

  pub linked_carried : (m : ℕ) → method (known b) m ≡ Parity → (l : Link) → IsIn l (carried_links a b h m) → is_link (length b.shape.points) l ≡ true
  linked_carried m way l k =
      let r = IsIn-map (carried_link a b) l (basis (length a.shape.points) (links_of (known a) h (measure_in b.dims a.dims m))) k in
      subst (λ x. is_link (length b.shape.points) x ≡ true) r.2 (link_there a b are_apart r.0 (linked_old m way r.0 r.1))

  no_stop : (m : ℕ) → m < length b.policy.methods → stops_by (method (known b) m) a b h m ≡ []
  no_stop m l = nothing_within (λ k. stops_by (method (known b) k) a b h k) m (count_from 0 (length b.policy.methods)) free (count_from_has m 0 (length b.policy.methods) (omega arith) (omega (arith, l)))

  there : (m : ℕ) (way : Method) → method (known b) m ≡ way → (way ≡ Plain → ⊥) → stops_by way a b h m ≡ []
  there m way e c = subst (λ w. stops_by w a b h m ≡ []) e (no_stop m (in_list b.policy.methods m (λ p. c (sym e ∙ p))))

  -- each guarded place is free from the carried links
  pub all_free : (m : ℕ) → method (known b) m ≡ Parity → AllFree (known b) m (carried_links a b h m)
  all_free m way i k = not-false (is_free (length b.shape.points) (carried_links a b h m) i) (find_none (λ j. not (has_plus (suiting (length b.shape.points) (carried_links a b h m)) j)) i (guarded (known b) m)
      (unfixed (fixed_by (suiting (length b.shape.points) (carried_links a b h m)) (guarded (known b) m)) (there m Parity way (λ p. absurd (cc)))) k)
    where
      unfixed : (o : Option ℕ) → unless_free b m o ≡ [] → o ≡ None
      unfixed None e = refl
      unfixed (Some i) e = absurd (cc)

  -- a source of the old history is carried
  pub source_carried : (m : ℕ) (s : List ℕ) → method (known b) m ≡ Lattice → source h (measure_in b.dims a.dims m) ≡ Some s → (c : List ℕ) × (carried_source a b h m ≡ Some c)
  source_carried m s way e = go (carried_source a b h m) refl
    where
      found : unless_found m (source h (measure_in b.dims a.dims m)) (carried_source a b h m) ≡ []
      found = there m Lattice way (λ p. absurd (cc))

      go : (o : Option (List ℕ)) → carried_source a b h m ≡ o → (c : List ℕ) × (carried_source a b h m ≡ Some c)
      go (Some c) q = (c, q)
      go None q = absurd (some_none (sym (ap (λ x. unless_found m x (carried_source a b h m)) e ∙ ap (unless_found m (Some s)) q) ∙ found))
        where
          some_none : NoSource m ∷ [] ≡ [] → ⊥
          some_none z = cc

  pub carried_stands : (m : ℕ) (c : List ℕ) → carried_source a b h m ≡ Some c → Stands a b m (source h (measure_in b.dims a.dims m)) c
  carried_stands m c e = source_stands a b m (source h (measure_in b.dims a.dims m)) c e

  old_in_range : (m : ℕ) (s : List ℕ) → source h m ≡ Some s → are_levels (plains a.dims) s ≡ true
  old_in_range m s e = subst (InRange (known a)) e (source_in_range (known a) h m all)

  pub old_long : (m : ℕ) (s : List ℕ) → source h m ≡ Some s → length s ≡ length a.dims.dimensions
  old_long m s e = (levels_at (plains a.dims) s (old_in_range m s e)).0 ∙ length-plains a.dims

  measure_admissible : (c : List Entry) (m : ℕ) (way : Method) → method (known b) m ≡ way → on m c ≡ [] → AdmissibleFrom (known b) c (carried_by way a b h m)
  unfolding is_allowed
  measure_admissible c m Plain way none = tt
  measure_admissible c m Lattice way none = go (carried_source a b h m) refl
    where
      go : (o : Option (List ℕ)) → carried_source a b h m ≡ o → AdmissibleFrom (known b) c (source_entry m o)
      go None e = tt
      go (Some s) e =
          let x = carried_stands m s e in (
            and_from (is_lattice (method (known b) m)) (are_levels (plains b.dims) s) (ap is_lattice way) (finer_in_range (plains b.dims) s (carried_levels a.dims b.dims x.old) x.finer (carried_in_range a b old new na nb co x.old (old_in_range (measure_in b.dims a.dims m) x.old x.is_old))),
            source_taken (known b) c m s (source_nothing c m none) x.cuts,
            tt,
          )
  measure_admissible c m Parity way none =
      subst (λ x. AdmissibleFrom (known b) x (map (Linked m) (carried_links a b h m))) (append-nil c)
      (links_admissible (known b) c m [] (carried_links a b h m) way none (linked_carried m way)
      (fresh_there a b are_apart [] (basis (length a.shape.points) (links_of (known a) h (measure_in b.dims a.dims m))) (λ l k. absurd k) (linked_old m way) (basis_fresh (length a.shape.points) (links_of (known a) h (measure_in b.dims a.dims m))))
      (all_free m way))

  pub carried_admissible : IsAdmissible (known b) (carried_history a b h)
  carried_admissible = admissible_by_measure (carried_on a b h) (each_carried a b h) (known b) (λ c m none. measure_admissible c m (method (known b) m) refl none) [] 0 (length b.policy.methods) (λ m l. refl)

pub carried_is_admissible : CarriedIsAdmissible
carried_is_admissible a b old new h na nb co adm free = carried_admissible a b old new h na nb co adm free
