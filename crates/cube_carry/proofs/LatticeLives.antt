-- Two lives on a lattice measure.
use Rattle.std.specs.List.{list_all}
use Rattle.std.proofs.Common.{inl, inr, ◌≡◌, ℕ, ◌<◌, true, false, cond, not, ◌||◌, List, length, map, get_or, Option, Some, None, ℤ, pos, negsuc, refl, sym, ap, ap₂, ◌∙◌, subst, eqb, eqb-true, eq-eqb, ⊎_elim}
use Rattle.std.proofs.lemmas.Bool.{false≢true, or_cases, not-true, false_from_ne_true}
use Rattle.cube_model.specs.declared.cell.Cell.{Cell}
use Rattle.cube_model.specs.declared.entry.Entry.{Entry}
use Rattle.cube_model.specs.declared.policy.Method.TheVariants.{Lattice}
use Rattle.cube_model.specs.Cubes.{Public, same, places, point, key_at, together, is_finer, IsIn}
use Rattle.cube_model.specs.Dims.{plains}
use Rattle.cube_model.specs.Protection.{method, listed, protected}
use Rattle.cube_model.specs.Verdicts.{source, IsAdmissible}
use Rattle.cube_model.specs.Twins.{moved, changes}
use Rattle.cube_model.specs.Runs.{Ask}
use Rattle.cube_model.proofs.Histories.{source_cuts}
use Rattle.cube_model.proofs.Leasts.{in_places}
use Rattle.cube_model.proofs.Members.{IsIn-map, map_has, same_eq, same_refl, tested}
use Rattle.cube_model.proofs.Orders.{coarser_together}
use Rattle.cube_model.proofs.Parities.{all_at, at_place}
use Rattle.cube_model.proofs.Sources.{cut_at, apart, changes_moved, place_below}
use Rattle.cube_model.proofs.Twinned.{map_alike}
use Rattle.cube_model.proofs.Walks.{listed_from, listed_has, same_truth}
use Rattle.cube_carry.specs.Continues.{Continues}
use Rattle.cube_carry.specs.Names.{IsNamed, Named, known, measure_in, carried_levels, carried_place, old_places}
use Rattle.cube_carry.specs.Carrying.{keeps_apart}
use Rattle.cube_carry.specs.TwoLives.{AreLives, old_changes}
use Rattle.cube_carry.proofs.Carried.{old_long, Stands, source_carried, carried_stands}
use Rattle.cube_carry.proofs.Embeds.{is_point, place_there, places_apart, joined}
use Rattle.cube_carry.proofs.Leaving.{IsMoved, FitsBy}
use Rattle.cube_carry.proofs.Measures.{had, is_controlled}
use Rattle.cube_carry.proofs.Silence.{first_end, first_admissible, holds_carried, source_of_carried}

-- a cuboid has two places together either way round
pub together_turned : (g : Public) (c : List ℕ) (i j : ℕ) → together g c i j ≡ true → together g c j i ≡ true
together_turned g c i j t = ap (λ x. same x (key_at g c i)) (sym (same_eq (key_at g c i) (key_at g c j) t)) ∙ same_refl (key_at g c i)

-- what a finer cuboid has together, a coarser one has
pub together_coarser : (b : Named) (new : List (List ℤ)) (c s : List ℕ) (i j : ℕ) → IsNamed b new → i < length b.shape.points → j < length b.shape.points → is_finer c s ≡ true → together (known b) c i j ≡ true → together (known b) s i j ≡ true
unfolding key_at
together_coarser b new c s i j nb hi hj f t =
    ap (same (key_at (known b) s i)) (sym (coarser_together (plains b.dims) c s (point (known b) i) (point (known b) j) nb.world.hierarchies (is_point b new i nb hi) (is_point b new j nb hj) f t)) ∙ same_refl (key_at (known b) s i)

-- a cuboid that keeps old and new places apart has no old place together with a new one
pub apart_at : (a b : Named) (c : List ℕ) (i j : ℕ) → keeps_apart a b c ≡ true → IsIn i (old_places a b) → j < length b.shape.points → together (known b) c i j ≡ true → IsIn j (old_places a b)
apart_at a b c i j k hi hj t = ⊎_elim
    (λ x. listed_from j (old_places a b) x)
    (λ x. absurd (false≢true (sym (not-true (together (known b) c i j) x) ∙ t)))
    (or_cases (listed j (old_places a b)) (not (together (known b) c i j))
    (all_at (λ y. listed y (old_places a b) || not (together (known b) c i y)) j (places (known b))
    (all_at (λ x. list_all (λ y. listed y (old_places a b) || not (together (known b) c x y)) (places (known b))) i (old_places a b) k hi)
    (in_places (known b) j hj)))

-- an old place
pub old_place : (a b : Named) (p : ℕ) → IsIn p (old_places a b) → (i : ℕ) × (i < length a.shape.points) × (carried_place a b i ≡ p)
old_place a b p h = let r = IsIn-map (carried_place a b) p (places (known a)) h in (r.0, place_below (known a) r.0 r.1, r.2)

pub place_is_old : (a b : Named) (i : ℕ) → i < length a.shape.points → IsIn (carried_place a b i) (old_places a b)
place_is_old a b i h = map_has (carried_place a b) i (places (known a)) (in_places (known a) i h)

module _ (a b : Named) (old new : List (List ℤ)) (na : IsNamed a old) (nb : IsNamed b new) (co : Continues a b) where
  abbrev n : ℕ
  n = length a.shape.points

  abbrev f : ℕ → ℕ
  f = carried_place a b

  pub below_there : (i : ℕ) → i < n → f i < length b.shape.points
  below_there i l = place_there a b old new na nb co i l

  -- the changes at old places
  pub old_changes_by : (φ : ℕ → ℤ) → old_changes a b (map φ (places (known b))) ≡ map (λ i. φ (f i)) (places (known a))
  old_changes_by φ = map_alike (λ i. get_or (map φ (places (known b))) (f i) (pos 0)) (λ i. φ (f i)) (places (known a)) (λ i k. at_place φ (length b.shape.points) (f i) (below_there i (place_below (known a) i k)))

  pub one_place : (i j : ℕ) → i < n → j < n → eqb (f i) (f j) ≡ eqb i j
  one_place i j hi hj = same_truth (eqb (f i) (f j)) (eqb i j)
      (λ t. eq-eqb i j (places_apart a b old new na nb co i j hi hj (eqb-true (f i) (f j) t)))
      (λ t. eq-eqb (f i) (f j) (ap f (eqb-true i j t)))

  -- a pair of new places does nothing at old ones
  pub moved_elsewhere : (e : ℕ × ℕ) (i : ℕ) → i < n → (IsIn e.0 (old_places a b) → ⊥) → (IsIn e.1 (old_places a b) → ⊥) → moved e (f i) ≡ pos 0
  moved_elsewhere e i hi x y = ap₂ (λ u v. cond u (pos 1) (cond v (negsuc 0) (pos 0))) (differs e.0 x) (differs e.1 y)
    where
      differs : (p : ℕ) → (IsIn p (old_places a b) → ⊥) → eqb (f i) p ≡ false
      differs p none = false_from_ne_true (eqb (f i) p) (λ t. none (subst (λ z. IsIn z (old_places a b)) (eqb-true (f i) p t) (place_is_old a b i hi)))

  -- a pair of old places is one there
  pub moved_there : (i j p : ℕ) → i < n → j < n → p < n → moved (f i, f j) (f p) ≡ moved (i, j) p
  moved_there i j p hi hj hp = ap₂ (λ u v. cond u (pos 1) (cond v (negsuc 0) (pos 0))) (one_place p i hp hi) (one_place p j hp hj)

module _ (a b : Named) (old new : List (List ℤ)) (h : List Entry) (before behind : List Ask) (later : List Entry) (lives : AreLives a b old new h before behind later) where
  abbrev there : ℕ → ℕ
  there = carried_place a b

  module _ (m : ℕ) (way : method (known b) m ≡ Lattice) where
    abbrev k : ℕ
    k = measure_in b.dims a.dims m

    pub controlled : m < length b.dims.measures
    controlled = is_controlled b new m lives.new_named (λ p. absurd (cc))

    pub old_way : k < length a.dims.measures → method (known a) k ≡ Lattice
    old_way l = (had a b new m lives.new_named lives.continues controlled l).way ∙ way

    -- the later source is as fine as the carried one, which stands for the old one
    pub later_stands : (s : List ℕ) → source (first_end a b old new h before behind later lives) k ≡ Some s → (c : List ℕ) × (source later m ≡ Some c) × (x : List ℕ) × (is_finer c x ≡ true) × Stands a b m (Some s) x
    later_stands s e =
        let r = source_carried a b old new (first_end a b old new h before behind later lives) lives.old_named lives.new_named lives.continues (first_admissible a b old new h before behind later lives) lives.carried m s way e in
        let x = carried_stands a b old new (first_end a b old new h before behind later lives) lives.old_named lives.new_named lives.continues (first_admissible a b old new h before behind later lives) lives.carried m r.0 r.1 in
        let z = (holds_carried a b old new h before behind later lives).sources m r.0 way (source_of_carried a b old new h before behind later lives m way ∙ r.1) in
        (z.0, z.1, r.0, z.2, subst (λ o. Stands a b m o r.0) e x)

    -- changes that fit the later history fit the old one at their old places
    pub fits_before : (ch : List ℤ) → FitsBy Lattice (known b) later m ch → k < length a.dims.measures → FitsBy Lattice (known a) (first_end a b old new h before behind later lives) k (old_changes a b ch)
    fits_before ch fit l = go (source (first_end a b old new h before behind later lives) k) refl fit
      where
        last' : List Entry
        last' = first_end a b old new h before behind later lives

        one : (x y : List ℕ) → Some x ≡ Some y → x ≡ y
        one x y q = cc

        some_none : (c : List ℕ) → Some c ≡ None → ⊥
        some_none c e = cc

        by_pair : (e : ℕ × ℕ) → e.0 < length b.shape.points → e.1 < length b.shape.points → (e.0 ≡ e.1 → ⊥) → ch ≡ map (moved e) (places (known b)) → (s x : List ℕ) → source last' k ≡ Some s → is_finer x (carried_levels a.dims b.dims s) ≡ true → together (known b) x e.0 e.1 ≡ true → ((i : ℕ) × (i < length a.shape.points) × (there i ≡ e.0)) → ((j : ℕ) × (j < length a.shape.points) × (there j ≡ e.1)) → FitsBy Lattice (known a) last' k (old_changes a b ch)
        by_pair e b0 b1 differ is_ch s x is_s fine tx i j = inr (inr (record {
          levels = s;
          is_source = is_s;
          pair = (i.0, j.0);
          first_below = i.1;
          second_below = j.1;
          differ = λ q. differ (sym i.2 ∙ ap there q ∙ j.2);
          joined = sym (joined a b old new lives.old_named lives.new_named lives.continues s i.0 j.0 in_range i.1 j.1)
              ∙ ap₂ (λ u v. together (known b) (carried_levels a.dims b.dims s) u v) i.2 j.2
              ∙ together_coarser b new x (carried_levels a.dims b.dims s) e.0 e.1 lives.new_named b0 b1 fine tx;
          is = ap (old_changes a b) is_ch ∙ old_changes_by a b old new lives.old_named lives.new_named lives.continues (moved e) ∙ map_alike (λ p. moved e (there p)) (moved (i.0, j.0)) (places (known a)) (λ p kp. ap₂ (λ u v. moved (u, v) (there p)) (sym i.2) (sym j.2) ∙ moved_there a b old new lives.old_named lives.new_named lives.continues i.0 j.0 p i.1 j.1 (place_below (known a) p kp));
        }))
          where
            in_range : length s ≡ length a.dims.dimensions
            in_range = old_long a b old new last' lives.old_named lives.new_named lives.continues (first_admissible a b old new h before behind later lives) lives.carried k s is_s

        by_none : (e : ℕ × ℕ) → ch ≡ map (moved e) (places (known b)) → (IsIn e.0 (old_places a b) → ⊥) → (IsIn e.1 (old_places a b) → ⊥) → FitsBy Lattice (known a) last' k (old_changes a b ch)
        by_none e is_ch x y = inr (inl (record { by = λ i. moved e (there i); zeros = λ i hi. moved_elsewhere a b old new lives.old_named lives.new_named lives.continues e i hi x y; is = ap (old_changes a b) is_ch ∙ old_changes_by a b old new lives.old_named lives.new_named lives.continues (moved e) }))

        by_source : (x : IsMoved (known b) later m ch) (s c : List ℕ) → source last' k ≡ Some s → Stands a b m (Some s) c → together (known b) c x.pair.0 x.pair.1 ≡ true → FitsBy Lattice (known a) last' k (old_changes a b ch)
        by_source x s c is_s stands t = tested (listed x.pair.0 (old_places a b))
            (λ q. let p0 = listed_from x.pair.0 (old_places a b) q in by_pair x.pair x.first_below x.second_below x.differ x.is s c is_s (subst (λ z. is_finer c (carried_levels a.dims b.dims z) ≡ true) (sym (one s stands.old stands.is_old)) stands.finer) t (old_place a b x.pair.0 p0) (old_place a b x.pair.1 (apart_at a b c x.pair.0 x.pair.1 stands.apart p0 x.second_below t)))
            (λ q. let none : IsIn x.pair.0 (old_places a b) → ⊥ = λ z. false≢true (sym q ∙ listed_has x.pair.0 (old_places a b) z) in by_none x.pair x.is none (λ z. none (apart_at a b c x.pair.1 x.pair.0 stands.apart z x.first_below (together_turned (known b) c x.pair.0 x.pair.1 t))))

        go : (o : Option (List ℕ)) → source last' k ≡ o → FitsBy Lattice (known b) later m ch → FitsBy Lattice (known a) last' k (old_changes a b ch)
        go None q fit = inl q
        go (Some s) q (inl none) = let z = later_stands s q in absurd (some_none z.0 (sym z.1 ∙ none))
        go (Some s) q (inr (inl x)) = inr (inl (record { by = λ i. x.by (there i); zeros = λ i hi. x.zeros (there i) (below_there a b old new lives.old_named lives.new_named lives.continues i hi); is = ap (old_changes a b) x.is ∙ old_changes_by a b old new lives.old_named lives.new_named lives.continues x.by }))
        go (Some s) q (inr (inr x)) =
            let z = later_stands s q in
            by_source x s z.2 q z.4 (together_coarser b new x.levels z.2 x.pair.0 x.pair.1 lives.new_named x.first_below x.second_below (subst (λ y. is_finer y z.2 ≡ true) (one z.0 x.levels (sym z.1 ∙ x.is_source)) z.3) x.joined)

-- the changes for a protected cell fit the history that they are by
pub lattice_fits : (g : Public) (last : List Entry) (m : ℕ) (t : Cell) → method g m ≡ Lattice → IsAdmissible g last → IsIn t (protected g m) → FitsBy Lattice g last m (changes g last m t)
lattice_fits g last m t way adm is_in = go (source last m) refl
  where
    go : (o : Option (List ℕ)) → source last m ≡ o → FitsBy Lattice g last m (changes g last m t)
    go None q = inl q
    go (Some c) q =
        let e = cut_at g c t (source_cuts g last m c way adm q t is_in) in
        inr (inr (record {
          levels = c;
          is_source = q;
          pair = e.0;
          first_below = e.2.first_below;
          second_below = e.2.second_below;
          differ = apart g c t e.0 e.2;
          joined = e.2.joined;
          is = changes_moved g last m t c e.0 way q e.1;
        }))
