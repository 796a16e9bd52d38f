-- Two worlds over two lives, for the places that the old cube protected, and for each cell that it did.
use Rattle.std.proofs.Common.{◌≡◌, ℕ, ◌<◌, true, cond, List, [], ◌∷◌, length, map, Option, Some, None, ℤ, pos, refl, sym, ap, ◌∙◌, subst, eq-eqb}
use Rattle.cube_model.specs.declared.cell.Cell.{Cell}
use Rattle.cube_model.specs.declared.entry.Entry.{Entry}
use Rattle.cube_model.specs.declared.policy.Method.{Method}
use Rattle.cube_model.specs.declared.policy.Method.TheVariants.{Plain, Lattice, Parity}
use Rattle.cube_model.specs.Cubes.{same, core, places, key_at, covers, covered, IsIn}
use Rattle.cube_model.specs.Protection.{method, protected_by, protected, first, guarded, core_cell}
use Rattle.cube_model.specs.Verdicts.{links_of, IsAdmissible}
use Rattle.cube_model.specs.Requests.{total}
use Rattle.cube_model.specs.Twins.{with_first, by_walks, walks}
use Rattle.cube_model.proofs.Alike.{of_places_to}
use Rattle.cube_model.proofs.FixedPlaces.{at_start}
use Rattle.cube_model.proofs.Leasts.{in_places}
use Rattle.cube_model.proofs.Members.{IsIn-filter, filter_has, IsIn-map, first_of, same_refl}
use Rattle.cube_model.proofs.Parities.{guarded_below, core_alone, links_of_places}
use Rattle.cube_model.proofs.Sources.{place_below}
use Rattle.cube_model.proofs.Sums.{at_one}
use Rattle.cube_carry.specs.Continues.{Continues}
use Rattle.cube_model.proofs.Histories.{admissible_allowed}
use Rattle.cube_carry.specs.Names.{IsNamed, Named, known, world_of, measure_in, carried_levels, carried_place}
use Rattle.cube_carry.specs.TwoLives.{old_changes, then_covered, part_by, old_cell_changes, OldCells}
use Rattle.cube_carry.proofs.Cells.{cell, cell_there, protected_there}
use Rattle.cube_carry.proofs.Embeds.{core_long}
use Rattle.cube_carry.proofs.LatticeLives.{below_there}
use Rattle.cube_carry.proofs.Leaving.{FitsBy}
use Rattle.cube_carry.proofs.Measures.{is_controlled}
use Rattle.cube_carry.proofs.OldCells.{same_way, sum_there, one_there, length-old_cell, lattice_old}
use Rattle.cube_carry.proofs.Lives.{fits_silent}
use Rattle.cube_carry.proofs.ParityLives.{walk_signs}

with_some : {X Y : Type 0} → (X → Y) → Option X → Option Y
with_some g None = None
with_some g (Some z) = Some (g z)

first_map : {X Y : Type 0} (g : X → Y) (xs : List X) (x : X) → first xs ≡ Some x → first (map g xs) ≡ Some (g x)
unfolding with_some
first_map g [] x e = absurd (cc)
first_map g (y ∷ ys) x e = ap (with_some g) e

module _ (a b : Named) (old new : List (List ℤ)) (na : IsNamed a old) (nb : IsNamed b new) (co : Continues a b) (later : List Entry) (adm : IsAdmissible (known b) later) (k : ℕ) (kb : k < length a.dims.measures) (way : method (known a) k ≡ Parity) (i : ℕ) (guards : IsIn i (guarded (known a) k)) (is_in : IsIn (core_cell (known a) i) (protected (known a) k)) where
  abbrev n : ℕ
  n = length a.shape.points

  abbrev f : ℕ → ℕ
  f = carried_place a b

  abbrev m : ℕ
  m = measure_in a.dims b.dims k

  abbrev t : Cell
  t = core_cell (known a) i

  parity_way : method (known b) m ≡ Parity
  parity_way = sym (same_way a b old new na nb co later adm k kb) ∙ way

  hi : i < n
  hi = guarded_below (known a) k i guards

  fb : f i < length b.shape.points
  fb = below_there a b old new na nb co i hi

  c' : List ℕ
  c' = carried_levels a.dims b.dims (core (known a))

  there_again : IsIn (cell c' (key_at (known b) c' (f i))) (protected (known b) m)
  unfolding c'
  there_again = subst (λ s. IsIn s (protected (known b) m)) (cell_there a b old new na nb co (core (known a)) i (core_long a b old new na nb co) hi)
      (protected_there a b old new na nb co k t kb is_in)

  -- the place is guarded in the new cube
  guards_there : IsIn (f i) (guarded (known b) m)
  unfolding protected
  guards_there = found (IsIn-map (core_cell (known b)) (cell c' (key_at (known b) c' (f i))) (guarded (known b) m) (subst (λ w. IsIn (cell c' (key_at (known b) c' (f i))) (protected_by w (known b) m)) parity_way there_again))
    where
      found : (p : ℕ) × (IsIn p (guarded (known b) m)) × (core_cell (known b) p ≡ cell c' (key_at (known b) c' (f i))) → IsIn (f i) (guarded (known b) m)
      found r = subst (λ z. IsIn z (guarded (known b) m)) (sym (core_alone (world_of b new) r.0 (f i) nb.world (guarded_below (known b) m r.0 r.1) fb
          (ap (same (key_at (known b) (core (known b)) (f i))) (ap (λ s. s.key) r.2 ∙ ap (λ c. key_at (known b) c (f i)) (sym (ap (λ s. s.levels) r.2))) ∙ same_refl (key_at (known b) (core (known b)) (f i))))) r.1

  signs : ℕ → ℤ
  signs = by_walks (walks (known b) later m (f i))

  covers_i : covers (known a) t i ≡ true
  covers_i = same_refl (key_at (known a) (core (known a)) i)

  only : (j : ℕ) → j < n → covers (known a) t j ≡ true → j ≡ i
  only j hj cj = core_alone (world_of a old) i j na.world hi hj cj

  is_first : first (then_covered a b t) ≡ Some (f i)
  is_first =
      let r = first_of i (covered (known a) t) (filter_has (covers (known a) t) i (places (known a)) covers_i (in_places (known a) i hi)) in
      let q = IsIn-filter (covers (known a) t) r.0 (places (known a)) r.2 in
      first_map f (covered (known a) t) r.0 r.1 ∙ ap (λ z. Some (f z)) (only r.0 (place_below (known a) r.0 q.1) q.0)

  is_signs : old_cell_changes a b later m t ≡ map signs (places (known b))
  unfolding signs
  is_signs = ap (λ w. map (part_by w (known b) later m (then_covered a b t)) (places (known b))) parity_way
      ∙ ap (λ o. map (with_first (λ from. by_walks (walks (known b) later m from)) o) (places (known b))) is_first

  starts : signs (f i) ≡ pos 1
  unfolding signs
  starts = at_start (length b.shape.points) (links_of (known b) later m) (f i) (λ l z. of_places_to (length b.shape.points) l (links_of_places (known b) later m l (admissible_allowed (known b) [] later adm) z)) fb

  each : (j : ℕ) → j < n → covers (known a) t j ≡ true → signs (f j) ≡ at_one i (pos 1) j
  each j hj cj = subst (λ z. signs (f z) ≡ at_one i (pos 1) z) (sym (only j hj cj)) (starts ∙ sym (ap (λ x. cond x (pos 1) (pos 0)) (eq-eqb i i refl)))

  pub parity_old : FitsBy Parity (known b) later m (old_cell_changes a b later m t) × (total (old_changes a b (old_cell_changes a b later m t)) (covered (known a) t) ≡ pos 1)
  unfolding signs
  parity_old = (
    walk_signs (known b) later m (f i) (old_cell_changes a b later m t) parity_way adm fb guards_there is_signs,
    ap (λ ch. total (old_changes a b ch) (covered (known a) t)) is_signs ∙ one_there a b old new na nb co later adm k kb signs t i hi covers_i each,
  )

-- the changes for a cell that the old cube protected fit the later history, and add to 1 over the cell in the old cube
pub old_cell_fits : (a b : Named) (old new : List (List ℤ)) (later : List Entry) (k : ℕ) (t : Cell) (way : Method) → IsNamed a old → IsNamed b new → Continues a b → IsAdmissible (known b) later → k < length a.dims.measures → method (known a) k ≡ way → IsIn t (protected (known a) k) → FitsBy way (known b) later (measure_in a.dims b.dims k) (old_cell_changes a b later (measure_in a.dims b.dims k) t) × (total (old_changes a b (old_cell_changes a b later (measure_in a.dims b.dims k) t)) (covered (known a) t) ≡ pos 1)
unfolding protected
old_cell_fits a b old new later k t Plain na nb co adm kb e is_in = absurd (subst (λ w. IsIn t (protected_by w (known a) k)) e is_in)
old_cell_fits a b old new later k t Lattice na nb co adm kb e is_in = lattice_old a b old new na nb co later adm k kb t e is_in
old_cell_fits a b old new later k t Parity na nb co adm kb e is_in =
    let r = IsIn-map (core_cell (known a)) t (guarded (known a) k) (subst (λ w. IsIn t (protected_by w (known a) k)) e is_in) in
    subst (λ s. FitsBy Parity (known b) later (measure_in a.dims b.dims k) (old_cell_changes a b later (measure_in a.dims b.dims k) s) × (total (old_changes a b (old_cell_changes a b later (measure_in a.dims b.dims k) s)) (covered (known a) s) ≡ pos 1)) r.2
    (parity_old a b old new na nb co later adm k kb e r.0 r.1 (subst (λ s. IsIn s (protected (known a) k)) (sym r.2) is_in))

-- a measure with a protected cell is there
pub protected_measure : (a : Named) (values : List (List ℤ)) (k : ℕ) (t : Cell) → IsNamed a values → IsIn t (protected (known a) k) → k < length a.dims.measures
unfolding protected
protected_measure a values k t na is_in = is_controlled a values k na (λ e. subst (λ w. IsIn t (protected_by w (known a) k)) e is_in)

pub old_cells : OldCells
old_cells a b old new h before behind later k t lives is_in =
    let kb = protected_measure a old k t lives.old_named is_in in
    let r = old_cell_fits a b old new later k t (method (known a) k) lives.old_named lives.new_named lives.continues lives.later_admissible kb refl is_in in
    record {
      silent = fits_silent a b old new h before behind later lives (measure_in a.dims b.dims k) (old_cell_changes a b later (measure_in a.dims b.dims k) t) (method (known a) k) (sym (same_way a b old new lives.old_named lives.new_named lives.continues later lives.later_admissible k kb)) r.0 (length-old_cell a b old new lives.old_named lives.new_named lives.continues later lives.later_admissible k kb t);
      other_sum = sum_there a b old new lives.old_named lives.new_named lives.continues later lives.later_admissible k kb t (old_cell_changes a b later (measure_in a.dims b.dims k) t) r.1;
    }
