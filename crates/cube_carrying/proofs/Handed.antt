-- What follows from what is given where a history is carried over.
use Rattle.std.specs.List.{All}
use Rattle.std.specs.Prelude.{◌^◌}
use Rattle.std.proofs.Common.{◌≡◌, ℕ, zero, suc, ◌+◌, ◌<◌, ◌≤◌, ◌⊎◌, ltb, eqb, Bool, inl, inr, true, not, ◌&&◌, List, [], ◌∷◌, ◌++◌, length, map, filter, get_or, is_none, Some, None, refl, sym, ap, ap₂, ◌∙◌, subst, arith, append-nil}
use Rattle.std.proofs.lemmas.List.{get_or-map, length-map}
use Rattle.cube_model.specs.declared.entry.Entry.{Entry}
use Rattle.cube_model.specs.declared.link.Link.{Link}
use Rattle.cube_model.specs.declared.link.Link.TheVariants.{Pair, Single}
use Rattle.cube_model.specs.declared.policy.Method.TheVariants.{Parity}
use Rattle.cube_model.specs.declared.policy.Policy.{Policy}
use Rattle.cube_model.specs.Cores.{Core, IsCore, shown}
use Rattle.cube_model.specs.Cubes.{Public, IsIn, count_from, are_levels}
use Rattle.cube_model.specs.Dims.{plains}
use Rattle.cube_model.specs.Entries.{is_link}
use Rattle.cube_model.specs.Links.{basis}
use Rattle.cube_model.specs.LinkLaws.{AreOfPlaces, IsOfPlaces}
use Rattle.cube_model.specs.Policies.{IsPolicy}
use Rattle.cube_model.specs.Protection.{method, uncut, listed}
use Rattle.cube_model.specs.Verdicts.{source, links_of, IsAdmissible}
use Rattle.cube_model.proofs.Bases.{below_or, basis_is_short}
use Rattle.cube_model.proofs.Compacts.{InRange, source_in_range}
use Rattle.cube_model.proofs.Histories.{AreAllowed, admissible_allowed}
use Rattle.cube_model.proofs.Members.{IsIn-map, IsIn-count_from}
use Rattle.cube_model.proofs.Sums.{length-count_from}
use Rattle.cube_source.specs.Blocks.{AreFlags}
use Rattle.cube_colour.proofs.History.{All-from}
use Rattle.cube_admit.specs.States.{State, IsStateOf, entry_of}
use Rattle.cube_carry.specs.Carrying as carrying
use Rattle.cube_carry.specs.Carrying.{last, source_for}
use Rattle.cube_carry.specs.Names.{Named, named, known, IsNamed, measure_in, carried_levels, carried_place, carried_link}
use Rattle.cube_carry.proofs.Cores.{cores_are_named}
use Rattle.cube_carry.proofs.Embeds.{place_there, places_apart, carried_in_range}
use Rattle.cube_carry.proofs.Measures.{had, no_links, no_source}
use Rattle.cube_carry.proofs.Spread.{AreApart, AreLinked, basis_linked, link_there}
use Rattle.cube_carrying.specs.Given.{IsGiven}
use Rattle.cube_carrying.specs.Links.{link_by}
use Rattle.cube_carrying.specs.Places.{carried_places}
use Rattle.cube_carrying.specs.Standing.{stays_apart, can_stand, last_standing}
use Rattle.cube_carrying.proofs.Lasts.{filter_alike}
use Rattle.cube_carrying.proofs.Mixing.{stays_apart_is}
use Rattle.std.proofs.lemmas.Bool.{and_parts, ltb-true}

-- ---- the old history
pub admissible : (g : Public) (s : State) → IsStateOf g s → s.pending ≡ None → IsAdmissible g s.history
admissible g s stands none = subst (IsAdmissible g) (ap (λ p. s.history ++ entry_of p) none ∙ append-nil s.history) stands.admissible

pub all_allowed : (g : Public) (s : State) → IsStateOf g s → s.pending ≡ None → AreAllowed g s.history
all_allowed g s stands none = admissible_allowed g [] s.history (admissible g s stands none)

pub source_beyond : (c : Core) (p : Policy) (s : State) (k : ℕ) → IsPolicy c.dims p → IsStateOf (shown c p) s → s.pending ≡ None → length c.dims.measures ≤ k → source s.history k ≡ None
source_beyond c p s k rules stands none past = let e = rules.methods in no_source (shown c p) k s.history (all_allowed (shown c p) s stands none) (omega (arith, e, past))

pub links_beyond : (c : Core) (p : Policy) (s : State) (k : ℕ) → IsPolicy c.dims p → IsStateOf (shown c p) s → s.pending ≡ None → length c.dims.measures ≤ k → links_of (shown c p) s.history k ≡ []
links_beyond c p s k rules stands none past = let e = rules.methods in no_links (shown c p) k s.history (all_allowed (shown c p) s stands none) (omega (arith, e, past))

-- ---- numbers
at_number : (s n i : ℕ) → i < n → get_or (count_from s n) i 0 ≡ s + i
at_number s zero i l = absurd (omega (arith, l))
at_number s (suc n) zero l = omega arith
at_number s (suc n) (suc i) l = at_number (suc s) n i (omega (arith, l)) ∙ omega arith

link_places : (n : ℕ) (l : Link) → is_link n l ≡ true → IsOfPlaces n l
link_places n (Pair i j) e =
    let r = and_parts (ltb i n) (ltb j n) (and_parts (ltb i n && ltb j n) (not (eqb i j)) e).0 in
    (ltb-true i n r.0, ltb-true j n r.1)
link_places n (Single i) e = ltb-true i n e

map_among : {X Y : Type 0} (f h : X → Y) (xs : List X) → ((x : X) → IsIn x xs → f x ≡ h x) → map f xs ≡ map h xs
map_among f h [] same = refl
map_among f h (x ∷ xs) same = ap₂ (λ y ys. y ∷ ys) (same x (inl refl)) (map_among f h xs (λ y k. same y (inr k)))

module _ (c d : Core) (p q : Policy) (s : State) (given : IsGiven c p s d q) (old_core : IsCore c) (new_core : IsCore d) where
  abbrev a : Named
  a = named c p

  abbrev b : Named
  b = named d q

  abbrev h : List Entry
  h = s.history

  abbrev is : List ℕ
  is = carried_places c d

  old_named : IsNamed a c.cube
  old_named = cores_are_named c p old_core given.old_rules

  new_named : IsNamed b d.cube
  new_named = cores_are_named d q new_core given.new_rules

  old_admissible : IsAdmissible (known a) h
  old_admissible = admissible (shown c p) s given.stands given.none

  -- a measure of the new cube has its method in the old one, where that has it
  pub method_back : (m : ℕ) → m < length d.dims.measures → measure_in d.dims c.dims m < length c.dims.measures → method (known a) (measure_in d.dims c.dims m) ≡ method (known b) m
  method_back m l k = (had a b d.cube m new_named given.continues l k).way

  -- the levels of a source are levels of the new cube
  pub source_levels : (m : ℕ) (ls : List ℕ) → Some ls ≡ source h m → are_levels (plains d.dims) (carried_levels c.dims d.dims ls) ≡ true
  source_levels m ls e = carried_in_range a b c.cube d.cube old_named new_named given.continues ls (subst (InRange (known a)) (sym e) (source_in_range (known a) h m (all_allowed (shown c p) s given.stands given.none)))

  are_apart : AreApart a b
  are_apart = record { below = place_there a b c.cube d.cube old_named new_named given.continues; apart = places_apart a b c.cube d.cube old_named new_named given.continues }

  pub places_long : length is ≡ length c.shape.points
  places_long = length-map (count_from 0 (length c.shape.points)) (carried_place a b) ∙ length-count_from 0 (length c.shape.points)

  pub place_is : (i : ℕ) → i < length c.shape.points → get_or is i 0 ≡ carried_place a b i
  place_is i l = get_or-map (carried_place a b) (count_from 0 (length c.shape.points)) i 0 0 (let e = length-count_from 0 (length c.shape.points) in omega (arith, e, l)) ∙ ap (carried_place a b) (at_number 0 (length c.shape.points) i l ∙ omega arith)

  places_below : (i : ℕ) → IsIn i is → i < length d.shape.points
  places_below i k =
      let r = IsIn-map (carried_place a b) i (count_from 0 (length c.shape.points)) k in
      let l : r.0 < length c.shape.points = let w = (IsIn-count_from r.0 0 (length c.shape.points) r.1).1 in omega (arith, w) in
      subst (λ j. j < length d.shape.points) r.2 (are_apart.below r.0 l)

  pub places_within : All (λ i. i < length d.shape.points) is
  places_within = All-from (λ i. i < length d.shape.points) is places_below

  -- ---- links
  link_is : (l : Link) → IsOfPlaces (length c.shape.points) l → link_by is l ≡ carried_link a b l
  link_is (Pair i j) e = ap₂ Pair (place_is i e.0) (place_is j e.1)
  link_is (Single i) e = ap Single (place_is i e)

  linked : (m : ℕ) → m < length d.dims.measures → method (known b) m ≡ Parity → AreLinked (length c.shape.points) (basis (length c.shape.points) (links_of (known a) h (measure_in d.dims c.dims m)))
  linked m l way = go (below_or (measure_in d.dims c.dims m) (length c.dims.measures))
    where
      go : (measure_in d.dims c.dims m < length c.dims.measures) ⊎ (length c.dims.measures ≤ measure_in d.dims c.dims m) → AreLinked (length c.shape.points) (basis (length c.shape.points) (links_of (known a) h (measure_in d.dims c.dims m)))
      go (inl k) = basis_linked (known a) h (measure_in d.dims c.dims m) old_admissible (method_back m l k ∙ way)
      go (inr k) = subst (λ ls. AreLinked (length c.shape.points) (basis (length c.shape.points) ls)) (sym (links_beyond c p s (measure_in d.dims c.dims m) given.old_rules given.stands given.none k)) (λ x i. absurd i)

  pub links_are : (m : ℕ) → m < length d.dims.measures → method (known b) m ≡ Parity → map (link_by is) (basis (length c.shape.points) (links_of (known a) h (measure_in d.dims c.dims m))) ≡ carrying.carried_links a b h m
  links_are m l way = map_among (link_by is) (carried_link a b) (basis (length c.shape.points) (links_of (known a) h (measure_in d.dims c.dims m))) (λ x k. link_is x (link_places (length c.shape.points) x (linked m l way x k)))

  pub links_there : (m : ℕ) → m < length d.dims.measures → method (known b) m ≡ Parity → AreOfPlaces (length d.shape.points) (carrying.carried_links a b h m)
  links_there m l way x k =
      let r = IsIn-map (carried_link a b) x (basis (length c.shape.points) (links_of (known a) h (measure_in d.dims c.dims m))) k in
      link_places (length d.shape.points) x (subst (λ y. is_link (length d.shape.points) y ≡ true) r.2 (link_there a b are_apart r.0 (linked m l way r.0 r.1)))

  pub links_few : (m : ℕ) → length (carrying.carried_links a b h m) < 2 ^ 32
  links_few m =
      let e = length-map (basis (length c.shape.points) (links_of (known a) h (measure_in d.dims c.dims m))) (carried_link a b) in
      let short = basis_is_short (length c.shape.points) (links_of (known a) h (measure_in d.dims c.dims m)) in
      let few = old_core.few_points in
      omega (arith, e, short, few)

  -- ---- sources
  apart_is : (flags : List Bool) (e : List ℕ) → AreFlags (length d.shape.points) (λ k. listed k is) flags → stays_apart (known b) flags e ≡ carrying.keeps_apart a b e
  apart_is flags e are = stays_apart_is (known b) is flags e are places_below

  pub standing_is : (flags : List Bool) (m : ℕ) (cs : List (List ℕ)) → AreFlags (length d.shape.points) (λ k. listed k is) flags → last_standing (known b) flags m cs ≡ last (filter (carrying.can_stand a b m) cs)
  standing_is flags m cs are = ap last (filter_alike (can_stand (known b) flags m) (carrying.can_stand a b m) cs (λ e. ap (λ t. is_none (uncut (known b) e m) && t) (apart_is flags e are)))
