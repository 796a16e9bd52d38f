-- Two lives that are silent on changes which leave each row that was answered in them.
use Rattle.std.specs.Ordering.{int_eq}
use Rattle.std.proofs.Common.{◌≡◌, ◌≢◌, ℕ, zero, suc, ◌<◌, ◌≤◌, List, [], ◌∷◌, length, map, flat_map, fold, get_or, slice_set, Some, None, ℤ, pos, ◌+ℤ◌, refl, sym, ap, ap₂, ◌∙◌, subst, arith, ⊎_elim, get_or-set_other, get_or-set_same}
use Rattle.std.proofs.lemmas.Bool.{cases_eq}
use Rattle.std.proofs.lemmas.Bool.Decides.{Decides-int_eq}
use Rattle.std.proofs.lemmas.List.{get_or-map, length-map}
use Rattle.cube_model.specs.declared.entry.Entry.{Entry}
use Rattle.cube_model.specs.declared.policy.Method.TheVariants.{Lattice, Parity}
use Rattle.cube_model.specs.Cubes.{Public, places, count_from}
use Rattle.cube_model.specs.Requests.{values}
use Rattle.cube_model.specs.Protection.{method}
use Rattle.cube_model.specs.Entries.{levels_in, links_in}
use Rattle.cube_model.specs.Verdicts.{source, links_of, narrowed, IsAdmissible}
use Rattle.cube_model.specs.Twins.{added}
use Rattle.cube_model.specs.Runs.{Ask, replies, end, by_rules}
use Rattle.cube_model.specs.TwoWorlds.{HoldsMore}
use Rattle.cube_model.specs.Compaction.{source_entry}
use Rattle.cube_model.proofs.Growth.{Leaves, replies_alike, end_grows, extends_refl}
use Rattle.cube_model.proofs.Histories.{AreAllowed, admissible_allowed}
use Rattle.cube_model.proofs.Holding.{extended, more_trans}
use Rattle.cube_model.proofs.Leasts.{in_places}
use Rattle.cube_model.proofs.Members.{count_from_has, IsIn-count_from}
use Rattle.cube_model.proofs.Parities.{all_at, all_from}
use Rattle.cube_model.proofs.Sources.{Each-get_or, place_below}
use Rattle.cube_model.proofs.Sums.{length-count_from}
use Rattle.cube_model.proofs.Worlds.{stays_admissible}
use Rattle.cube_carry.specs.Names.{Named, known, world_of, IsNamed, measure_in, carried_place}
use Rattle.cube_carry.specs.Continues.{Continues, KeepsValues, has_values, value_at}
use Rattle.cube_carry.specs.Carrying.{carried_source, carried_links, carried_by, carried_history}
use Rattle.cube_carry.specs.TwoLives.{AreLives, old_changes, old_twin, new_twin, AreSilent}
use Rattle.cube_carry.proofs.Carried.{carried_admissible, carried_there}
use Rattle.cube_carry.proofs.Entries.{links_linked, linked_on, on_all, source_back, source_on}
use Rattle.cube_carry.proofs.Measures.{Had, had, is_found, measure_back}
use Rattle.cube_model.proofs.Bases.{below_or}
use Rattle.std.specs.Prelude.{◌+◌}
use Rattle.cube_model.specs.declared.entry.Entry.TheVariants.{Linked}

-- ---- lists
set_beyond : {X : Type 0} (xs : List X) (i : ℕ) (x : X) → length xs ≤ i → slice_set xs i x ≡ xs
set_beyond [] i x h = refl
set_beyond (y ∷ ys) zero x h = absurd (omega (arith, h))
set_beyond (y ∷ ys) (suc i) x h = ap (λ zs. y ∷ zs) (set_beyond ys i x (omega (arith, h)))

index_added : (vs ds : List ℤ) (i : ℕ) → length vs ≡ length ds → get_or (added vs ds) i (pos 0) ≡ get_or vs i (pos 0) +ℤ get_or ds i (pos 0)
index_added [] [] i e = refl
index_added [] (d ∷ ds) i e = absurd (omega (arith, e))
index_added (v ∷ vs) [] i e = absurd (omega (arith, e))
index_added (v ∷ vs) (d ∷ ds) zero e = refl
index_added (v ∷ vs) (d ∷ ds) (suc i) e = index_added vs ds i (omega (arith, e))

pub length-places : (g : Public) → length (places g) ≡ length g.shape.points
length-places g = length-count_from 0 (length g.shape.points)

pub place_at : (g : Public) (i : ℕ) → i < length g.shape.points → get_or (places g) i 0 ≡ i
place_at g i h = counted 0 (length g.shape.points) i h ∙ omega arith
  where
    counted : (s n i : ℕ) → i < n → get_or (count_from s n) i 0 ≡ s + i
    counted s zero i h = absurd (omega (arith, h))
    counted s (suc n) zero h = omega arith
    counted s (suc n) (suc i) h = counted (suc s) n i (omega (arith, h)) ∙ omega arith

-- the changes at an old place
pub old_change_at : (a b : Named) (ch : List ℤ) (i : ℕ) → i < length a.shape.points → get_or (old_changes a b ch) i (pos 0) ≡ get_or ch (carried_place a b i) (pos 0)
old_change_at a b ch i h = get_or-map (λ j. get_or ch (carried_place a b j) (pos 0)) (places (known a)) i 0 (pos 0) (let e = length-places (known a) in omega (arith, e, h)) ∙ ap (λ j. get_or ch (carried_place a b j) (pos 0)) (place_at (known a) i h)

pub length-old_changes : (a b : Named) (ch : List ℤ) → length (old_changes a b ch) ≡ length a.shape.points
length-old_changes a b ch = length-map (places (known a)) (λ i. get_or ch (carried_place a b i) (pos 0)) ∙ length-places (known a)

-- each list of values is as long as the points
pub long_values : (a : Named) (xs : List (List ℤ)) (m : ℕ) → IsNamed a xs → m < length a.dims.measures → (m < length xs) × (length (values (world_of a xs) m) ≡ length a.shape.points)
long_values a xs m na h = (below, Each-get_or (λ vs. length vs ≡ length a.shape.points) xs m [] na.world.values below)
  where
    below : m < length xs
    below = let e = na.methods in let d : length a.policy.methods ≡ length xs = na.world.methods in omega (arith, e, d, h)

-- ---- the values of the cubes with the changes
module _ (a b : Named) (old new : List (List ℤ)) (na : IsNamed a old) (nb : IsNamed b new) (co : Continues a b) (same_values : KeepsValues a b old new) where
  -- the values agree as before
  pub agreed : (j i : ℕ) → j < length a.dims.measures → i < length a.shape.points → value_at new (measure_in a.dims b.dims j) (carried_place a b i) ≡ value_at old j i
  agreed j i hj hi = (Decides-int_eq (value_at new (measure_in a.dims b.dims j) (carried_place a b i)) (value_at old j i)).0
      (all_at (λ x. int_eq (value_at new (measure_in a.dims b.dims x) (carried_place a b i)) (value_at old x i)) j (count_from 0 (length a.dims.measures))
      (all_at (has_values a b old new) i (places (known a)) same_values (in_places (known a) i hi))
      (count_from_has j 0 (length a.dims.measures) (omega arith) (omega (arith, hj))))

  module _ (m : ℕ) (ch : List ℤ) (there : m < length b.dims.measures) (long : length ch ≡ length b.shape.points) where
    abbrev k : ℕ
    k = measure_in b.dims a.dims m

    changed : (j i : ℕ) → j < length a.dims.measures → i < length a.shape.points → value_at (new_twin b new m ch).cube (measure_in a.dims b.dims j) (carried_place a b i) ≡ value_at (old_twin a b old m ch).cube j i
    changed j i hj hi = ⊎_elim here other (cases_eq j k)
      where
        here : j ≡ k → value_at (new_twin b new m ch).cube (measure_in a.dims b.dims j) (carried_place a b i) ≡ value_at (old_twin a b old m ch).cube j i
        here e =
            let kb : k < length a.dims.measures = subst (λ z. z < length a.dims.measures) e hj in
            let x : Had a b m = had a b new m nb co there kb in
            let v = long_values a old k na kb in
            let w = long_values b new m nb there in
            subst (λ z. value_at (new_twin b new m ch).cube (measure_in a.dims b.dims z) (carried_place a b i) ≡ value_at (old_twin a b old m ch).cube z i) (sym e)
            (ap (λ z. value_at (new_twin b new m ch).cube z (carried_place a b i)) x.back
            ∙ ap (λ vs. get_or vs (carried_place a b i) (pos 0)) (get_or-set_same new m (added (values (world_of b new) m) ch) [] w.0)
            ∙ index_added (values (world_of b new) m) ch (carried_place a b i) (w.1 ∙ sym long)
            ∙ ap₂ (λ y z. y +ℤ z) (sym (ap (λ z. value_at new z (carried_place a b i)) x.back) ∙ agreed k i kb hi) (sym (old_change_at a b ch i hi))
            ∙ sym (index_added (values (world_of a old) k) (old_changes a b ch) i (v.1 ∙ sym (length-old_changes a b ch)))
            ∙ sym (ap (λ vs. get_or vs i (pos 0)) (get_or-set_same old k (added (values (world_of a old) k) (old_changes a b ch)) [] v.0)))

        other : j ≢ k → value_at (new_twin b new m ch).cube (measure_in a.dims b.dims j) (carried_place a b i) ≡ value_at (old_twin a b old m ch).cube j i
        other ne =
            ap (λ vs. get_or vs (carried_place a b i) (pos 0)) (get_or-set_other new m (measure_in a.dims b.dims j) (added (values (world_of b new) m) ch) [] (λ e. ne (sym (measure_back a.dims b.dims j na.measures hj (is_found a b j co hj).there) ∙ ap (λ z. measure_in b.dims a.dims z) e)))
            ∙ agreed j i hj hi
            ∙ sym (ap (λ vs. get_or vs i (pos 0)) (get_or-set_other old k j (added (values (world_of a old) k) (old_changes a b ch)) [] ne))

    pub keeps : KeepsValues a b (old_twin a b old m ch).cube (new_twin b new m ch).cube
    keeps = all_from (has_values a b (old_twin a b old m ch).cube (new_twin b new m ch).cube) (places (known a)) (λ i ki.
        all_from (λ x. int_eq (value_at (new_twin b new m ch).cube (measure_in a.dims b.dims x) (carried_place a b i)) (value_at (old_twin a b old m ch).cube x i)) (count_from 0 (length a.dims.measures)) (λ j kj.
        (Decides-int_eq (value_at (new_twin b new m ch).cube (measure_in a.dims b.dims j) (carried_place a b i)) (value_at (old_twin a b old m ch).cube j i)).1
        (changed j i (let r = (IsIn-count_from j 0 (length a.dims.measures) kj).1 in omega (arith, r)) (place_below (known a) i ki))))

-- changes to a measure that the old cube had not
pub nothing_changed : (a b : Named) (old : List (List ℤ)) (h : List Entry) (before : List Ask) (m : ℕ) (ch : List ℤ) → IsNamed a old → length a.dims.measures ≤ measure_in b.dims a.dims m → replies by_rules (old_twin a b old m ch) h before ≡ replies by_rules (world_of a old) h before
nothing_changed a b old h before m ch na l = ap (λ c. replies by_rules (world_of a c) h before) (set_beyond old (measure_in b.dims a.dims m) (added (values (world_of a old) (measure_in b.dims a.dims m)) (old_changes a b ch)) (let e = na.methods in let d : length a.policy.methods ≡ length old = na.world.methods in omega (arith, e, d, l)))

-- ---- two lives
module _ (a b : Named) (old new : List (List ℤ)) (h : List Entry) (before behind : List Ask) (later : List Entry) (lives : AreLives a b old new h before behind later) where
  abbrev pub first_end : List Entry
  first_end = end by_rules (known a) h before

  abbrev pub carried : List Entry
  carried = carried_history a b first_end

  pub first_admissible : IsAdmissible (known a) first_end
  first_admissible = stays_admissible (known a) h before lives.admissible

  pub begins_admissible : IsAdmissible (known b) carried
  begins_admissible = carried_admissible a b old new first_end lives.old_named lives.new_named lives.continues first_admissible lives.carried

  pub second_allowed : AreAllowed (known b) (end by_rules (known b) carried behind)
  second_allowed = admissible_allowed (known b) [] (end by_rules (known b) carried behind) (stays_admissible (known b) carried behind begins_admissible)

  pub later_allowed : AreAllowed (known b) later
  later_allowed = admissible_allowed (known b) [] later lives.later_admissible

  pub holds_end : HoldsMore (known b) (end by_rules (known b) carried behind) later
  holds_end = extended (known b) (end by_rules (known b) carried behind) later later_allowed lives.extends

  -- the later history holds all that was carried
  pub holds_carried : HoldsMore (known b) carried later
  holds_carried = more_trans (known b) carried (end by_rules (known b) carried behind) later (extended (known b) carried (end by_rules (known b) carried behind) second_allowed (end_grows (known b) carried behind)) holds_end

  -- what was carried on a measure
  pub source_of_carried : (m : ℕ) → method (known b) m ≡ Lattice → source carried m ≡ carried_source a b first_end m
  unfolding source
  source_of_carried m way = ap (λ es. fold (λ s c. Some (narrowed s c)) None (flat_map levels_in es)) (carried_there a b first_end m (λ p. absurd (cc)) ∙ ap (λ w. carried_by w a b first_end m) way ∙ sym (on_all m (source_entry m (carried_source a b first_end m)) (source_on m (carried_source a b first_end m)))) ∙ source_back m (carried_source a b first_end m)

  pub links_of_carried : (m : ℕ) → method (known b) m ≡ Parity → links_of (known b) carried m ≡ carried_links a b first_end m
  unfolding links_of
  links_of_carried m way = ap (flat_map (links_in (known b))) (carried_there a b first_end m (λ p. absurd (cc)) ∙ ap (λ w. carried_by w a b first_end m) way ∙ sym (on_all m (map (Linked m) (carried_links a b first_end m)) (linked_on m (carried_links a b first_end m)))) ∙ links_linked (known b) m (carried_links a b first_end m)

  module _ (m : ℕ) (ch : List ℤ) (there : m < length b.dims.measures) (long : length ch ≡ length b.shape.points) where
    old_silent : (measure_in b.dims a.dims m < length a.dims.measures → Leaves (known a) first_end (measure_in b.dims a.dims m) (old_changes a b ch)) → replies by_rules (old_twin a b old m ch) h before ≡ replies by_rules (world_of a old) h before
    old_silent leaves = ⊎_elim
        (λ l. let v = long_values a old (measure_in b.dims a.dims m) lives.old_named l in
        replies_alike (world_of a old) (measure_in b.dims a.dims m) (old_changes a b ch) first_end v.0 (v.1 ∙ sym (length-old_changes a b ch)) (leaves l) h before (admissible_allowed (known a) [] first_end first_admissible, extended (known a) first_end first_end (admissible_allowed (known a) [] first_end first_admissible) (extends_refl first_end)))
        (λ l. nothing_changed a b old h before m ch lives.old_named l)
        (below_or (measure_in b.dims a.dims m) (length a.dims.measures))

    new_silent : Leaves (known b) later m ch → replies by_rules (new_twin b new m ch) carried behind ≡ replies by_rules (world_of b new) carried behind
    new_silent leaves = let v = long_values b new m lives.new_named there in
        replies_alike (world_of b new) m ch later v.0 (v.1 ∙ sym long) leaves carried behind (second_allowed, holds_end)

    pub silent : (measure_in b.dims a.dims m < length a.dims.measures → Leaves (known a) first_end (measure_in b.dims a.dims m) (old_changes a b ch)) → Leaves (known b) later m ch → AreSilent a b old new h before behind m ch
    silent in_old in_new = record { old_replies = old_silent in_old; new_replies = new_silent in_new; same_values = keeps a b old new lives.old_named lives.new_named lives.continues lives.same_values m ch there long }
