-- Two worlds over two lives, for the cells that the old cube protected.
use Rattle.std.proofs.Common.{[], ◌≡◌, ℕ, ◌<◌, true, false, cond, not, ◌&&◌, inl, List, length, map, filter, Option, Some, None, ℤ, pos, negsuc, ◌+ℤ◌, refl, sym, ap, ap₂, ◌∙◌, subst, arith, eqb, eqb-true, inr}
use Rattle.std.proofs.lemmas.Bool.{true≢false, and_parts, and_from, not-true, not_from_false, false_from_ne_true}
use Rattle.std.proofs.lemmas.List.{length-map}
use Rattle.cube_model.specs.declared.cell.Cell.{Cell}
use Rattle.cube_model.specs.declared.entry.Entry.{Entry}
use Rattle.cube_model.specs.declared.policy.Method.TheVariants.{Lattice}
use Rattle.cube_model.specs.Cubes.{Public, same, places, point, key_at, together, covers, covered, is_finer, meet, are_levels, IsIn}
use Rattle.cube_model.specs.Dims.{plains}
use Rattle.cube_model.specs.Requests.{total}
use Rattle.cube_model.specs.Protection.{method, listed, has_fewer, protected, first}
use Rattle.cube_model.specs.Verdicts.{source, IsAdmissible}
use Rattle.cube_model.specs.Twins.{plus_at, moved, with_first, twin, sum_of}
use Rattle.cube_model.specs.Meanings.{IsProtected}
use Rattle.cube_model.proofs.Finer.{is_finer_trans, meet_left, meet_right, length-meet}
use Rattle.cube_model.proofs.Histories.{Each-at, IsLong, admissible_allowed, long_source, source_cuts}
use Rattle.cube_model.proofs.Leasts.{in_places}
use Rattle.cube_model.proofs.Members.{IsIn-filter, filter_has, IsIn-map, map_has, IsIn-flat_map, flat_map_has, first_of, same_eq, same_refl}
use Rattle.cube_model.proofs.Objects.{protected_are}
use Rattle.cube_model.proofs.Sources.{cut_at, place_below, total_filter}
use Rattle.cube_model.proofs.Sums.{gather_alike, at_one, met}
use Rattle.cube_model.proofs.Twinned.{sum_twin}
use Rattle.cube_model.proofs.Walks.{listed_from, listed_has}
use Rattle.cube_carry.specs.Continues.{Continues}
use Rattle.cube_carry.specs.Names.{IsNamed, Named, known, world_of, measure_in, carried_levels, carried_place}
use Rattle.cube_carry.specs.TwoLives.{old_changes, old_twin, then_covered, parting_pairs, part_under, part_by, old_cell_changes}
use Rattle.cube_carry.proofs.Cells.{cell, cell_there, protected_there, finer_there}
use Rattle.cube_carry.proofs.Embeds.{is_point, joined}
use Rattle.cube_carry.proofs.LatticeLives.{together_turned, together_coarser, below_there, old_changes_by, one_place}
use Rattle.cube_carry.proofs.Leaving.{FitsBy}
use Rattle.cube_carry.proofs.Measures.{is_found, measure_back}
use Rattle.cube_carry.proofs.Orders.{levels_at, length-plains, finer_in_range, both_together, point_long, length-carried_levels, levels_back}
use Rattle.cube_carry.proofs.Smaller.{fewer_smaller}
use Rattle.cube_carry.proofs.Silence.{length-places, length-old_changes, long_values}

-- ---- pairs that part places
pub record IsParting (g : Public) (c these : List ℕ) (e : ℕ × ℕ) : Type 0 where
  pub first_below : e.0 < length g.shape.points
  pub second_below : e.1 < length g.shape.points
  pub has_first : listed e.0 these ≡ true
  pub not_second : listed e.1 these ≡ false
  pub joined : together g c e.0 e.1 ≡ true

pub parting_is : (g : Public) (c these : List ℕ) (e : ℕ × ℕ) → IsIn e (parting_pairs g c these) → IsParting g c these e
parting_is g c these e h =
    let x = IsIn-flat_map (λ i. map (λ j. (i, j)) (filter (λ j. not (listed j these) && together g c i j) (places g))) e (filter (λ i. listed i these) (places g)) h in
    let y = IsIn-map (λ (j : ℕ). (x.0, j)) e (filter (λ j. not (listed j these) && together g c x.0 j) (places g)) x.2 in
    let l = IsIn-filter (λ i. listed i these) x.0 (places g) x.1 in
    let r = IsIn-filter (λ j. not (listed j these) && together g c x.0 j) y.0 (places g) y.1 in
    let s = and_parts (not (listed y.0 these)) (together g c x.0 y.0) r.0 in
    subst (IsParting g c these) y.2 (record {
      first_below = place_below g x.0 l.1;
      second_below = place_below g y.0 r.1;
      has_first = l.0;
      not_second = not-true (listed y.0 these) s.0;
      joined = s.1;
    })

pub parting_has : (g : Public) (c these : List ℕ) (i j : ℕ) → i < length g.shape.points → j < length g.shape.points → listed i these ≡ true → listed j these ≡ false → together g c i j ≡ true → IsIn (i, j) (parting_pairs g c these)
parting_has g c these i j hi hj p q r =
    flat_map_has (λ i. map (λ j. (i, j)) (filter (λ j. not (listed j these) && together g c i j) (places g))) i (i, j) (filter (λ i. listed i these) (places g))
    (filter_has (λ i. listed i these) i (places g) p (in_places g i hi))
    (map_has (λ (k : ℕ). (i, k)) j (filter (λ j. not (listed j these) && together g c i j) (places g))
    (filter_has (λ j. not (listed j these) && together g c i j) j (places g) (and_from (not (listed j these)) (together g c i j) (not_from_false (listed j these) q) r) (in_places g j hj)))

-- what is together with one place is so with each other
pub together_trans : (g : Public) (c : List ℕ) (i j p : ℕ) → together g c i j ≡ true → together g c j p ≡ true → together g c i p ≡ true
together_trans g c i j p x y = ap (λ z. same z (key_at g c p)) (same_eq (key_at g c i) (key_at g c j) x) ∙ y

module _ (a b : Named) (old new : List (List ℤ)) (na : IsNamed a old) (nb : IsNamed b new) (co : Continues a b) (later : List Entry) (adm : IsAdmissible (known b) later) (k : ℕ) (kb : k < length a.dims.measures) where
  abbrev n : ℕ
  n = length a.shape.points

  abbrev f : ℕ → ℕ
  f = carried_place a b

  abbrev m : ℕ
  m = measure_in a.dims b.dims k

  pub there : m < length b.dims.measures
  there = (is_found a b k co kb).there

  pub same_way : method (known a) k ≡ method (known b) m
  same_way = (is_found a b k co kb).way

  pub same_measure : measure_in b.dims a.dims m ≡ k
  same_measure = measure_back a.dims b.dims k na.measures kb there

  -- changes that add to 1 over the cell in the old cube
  pub sum_there : (t : Cell) (ch : List ℤ) → total (old_changes a b ch) (covered (known a) t) ≡ pos 1 → sum_of (old_twin a b old m ch) k t ≡ sum_of (world_of a old) k t +ℤ pos 1
  sum_there t ch e =
      let v = long_values a old k na kb in
      subst (λ z. sum_of (twin (world_of a old) z (old_changes a b ch)) k t ≡ sum_of (world_of a old) k t +ℤ pos 1) (sym same_measure)
      (sum_twin (world_of a old) k (old_changes a b ch) (covered (known a) t) v.0 (v.1 ∙ sym (length-old_changes a b ch)) e)

  -- they do where they have 1 at one place of the cell alone
  pub one_there : (φ : ℕ → ℤ) (t : Cell) (i : ℕ) → i < n → covers (known a) t i ≡ true → ((j : ℕ) → j < n → covers (known a) t j ≡ true → φ (f j) ≡ at_one i (pos 1) j) → total (old_changes a b (map φ (places (known b)))) (covered (known a) t) ≡ pos 1
  one_there φ t i hi c each =
      ap (λ ch. total ch (covered (known a) t)) (old_changes_by a b old new na nb co φ)
      ∙ total_filter (known a) (λ j. φ (f j)) (covers (known a) t)
      ∙ gather_alike (λ j. φ (f j)) (at_one i (pos 1)) (covered (known a) t) (λ j z. let p = IsIn-filter (covers (known a) t) j (places (known a)) z in each j (place_below (known a) j p.1) p.0)
      ∙ met (covers (known a) t) i (pos 1) 0 n (omega arith) (omega (arith, hi)) c

  module _ (t : Cell) where
    abbrev these : List ℕ
    these = then_covered a b t

    pub covered_then : (i : ℕ) → i < n → covers (known a) t i ≡ true → listed (f i) these ≡ true
    covered_then i hi c = listed_has (f i) these (map_has f i (covered (known a) t) (filter_has (covers (known a) t) i (places (known a)) c (in_places (known a) i hi)))

    pub then_is : (p : ℕ) → listed p these ≡ true → (i : ℕ) × (i < n) × (covers (known a) t i ≡ true) × (f i ≡ p)
    then_is p e =
        let r = IsIn-map f p (covered (known a) t) (listed_from p these e) in
        let q = IsIn-filter (covers (known a) t) r.0 (places (known a)) r.1 in
        (r.0, place_below (known a) r.0 q.1, q.0, r.2)

    pub length-old_cell : length (old_cell_changes a b later m t) ≡ length b.shape.points
    length-old_cell = length-map (places (known b)) (part_by (method (known b) m) (known b) later m these) ∙ length-places (known b)

    -- ---- on a lattice measure
    module _ (way : method (known a) k ≡ Lattice) (is_in : IsIn t (protected (known a) k)) where
      pub new_way : method (known b) m ≡ Lattice
      new_way = sym same_way ∙ way

      by_source : old_cell_changes a b later m t ≡ map (part_under (source later m) (known b) these) (places (known b))
      by_source = ap (λ w. map (part_by w (known b) later m these) (places (known b))) new_way

      abbrev here : IsProtected (known a) k t
      here = (protected_are (known a) k t way).0 is_in

      abbrev i : ℕ
      i = here.5

      hi : i < n
      hi = here.6

      covers_i : covers (known a) t i ≡ true
      covers_i = here.8

      t_long : length t.levels ≡ length a.dims.dimensions
      t_long = (levels_at (plains a.dims) t.levels (finer_in_range (plains a.dims) t.levels here.0.levels here.3 (Each-at (λ o. are_levels (plains a.dims) o.levels ≡ true) here.0 a.policy.objects na.objects here.1))).0 ∙ length-plains a.dims

      -- the later source has an old place of the cell together with one that the cell did not cover
      module _ (c : List ℕ) (is_c : source later m ≡ Some c) where
        c_long : length c ≡ length b.dims.dimensions
        c_long = subst (IsLong (length (plains b.dims))) is_c (long_source (known b) later m (admissible_allowed (known b) [] later adm)) ∙ length-plains b.dims

        abbrev u : List ℕ
        u = carried_levels b.dims a.dims c

        u_long : length u ≡ length a.dims.dimensions
        u_long = length-carried_levels b.dims a.dims c

        u_back : carried_levels a.dims b.dims u ≡ c
        u_back = levels_back a.dims b.dims c co.no_other nb.dimensions c_long

        abbrev v : List ℕ
        v = meet t.levels u

        v_long : length v ≡ length a.dims.dimensions
        v_long = length-meet t.levels u (t_long ∙ sym u_long) ∙ t_long

        abbrev v' : List ℕ
        v' = carried_levels a.dims b.dims v

        abbrev small_cell : Cell
        small_cell = cell v (key_at (known a) v i)

        abbrev small_there : Cell
        small_there = cell v' (key_at (known b) v' (f i))

        -- the small cell at the place covers no other places than the cell, so it has few enough facts
        small_few : has_fewer (known a) here.0.fewer small_cell ≡ true
        small_few = fewer_smaller (known a) here.0.fewer small_cell t (λ j m c.
            ap (same (key_at (known a) t.levels j)) (sym (same_eq (key_at (known a) t.levels i) t.key covers_i))
            ∙ together_coarser a old v t.levels j i na (place_below (known a) j m) hi (meet_left t.levels u (t_long ∙ sym u_long)) c) here.4

        -- the small cell at the place is protected in the old cube, and so in the new one
        small_protected : IsIn small_there (protected (known b) m)
        small_protected = subst (λ s. IsIn s (protected (known b) m)) (cell_there a b old new na nb co v i v_long hi)
            (protected_there a b old new na nb co k small_cell kb ((protected_are (known a) k small_cell way).1
            (here.0, here.1, here.2, is_finer_trans v t.levels here.0.levels (meet_left t.levels u (t_long ∙ sym u_long)) here.3, small_few, i, hi, here.7, same_refl (key_at (known a) v i))))

        fine : is_finer v' c ≡ true
        fine = subst (λ z. is_finer v' z ≡ true) u_back (finer_there a b old new na nb co v u v_long (meet_right t.levels u (t_long ∙ sym u_long)))

        fb : f i < length b.shape.points
        fb = below_there a b old new na nb co i hi

        -- a place that t covers, and that the source has together with i, is in the small cell
        within : (j : ℕ) → j < n → covers (known a) t j ≡ true → together (known b) c (f i) (f j) ≡ true → together (known b) v' (f i) (f j) ≡ true
        unfolding key_at
        within j hj cj tc = joined a b old new na nb co v i j v_long hi hj
            ∙ both_together (plains a.dims) t.levels u (point (known a) i) (point (known a) j) in_t in_u (t_long ∙ sym (length-plains a.dims)) (u_long ∙ sym (length-plains a.dims)) (point_long (plains a.dims) (point (known a) i) (is_point a old i na hi)) (point_long (plains a.dims) (point (known a) j) (is_point a old j na hj))
          where
            in_t : together (known a) t.levels i j ≡ true
            in_t = ap (λ z. same (key_at (known a) t.levels i) z) (same_eq (key_at (known a) t.levels j) t.key cj) ∙ covers_i

            in_u : together (known a) u i j ≡ true
            in_u = sym (joined a b old new na nb co u i j u_long hi hj) ∙ ap (λ z. together (known b) z (f i) (f j)) u_back ∙ tc

        pub some_pair : (e : ℕ × ℕ) × (first (parting_pairs (known b) c these) ≡ Some e) × IsParting (known b) c these e
        some_pair =
            let e = cut_at (known b) c small_there (source_cuts (known b) later m c new_way adm is_c small_there small_protected) in
            let first_near : together (known b) c e.0.0 (f i) ≡ true = together_coarser b new v' c e.0.0 (f i) nb e.2.first_below fb fine e.2.covers_first in
            let near : together (known b) c (f i) e.0.1 ≡ true = together_trans (known b) c (f i) e.0.0 e.0.1 (together_turned (known b) c e.0.0 (f i) first_near) e.2.joined in
            let outside : listed e.0.1 these ≡ false = false_from_ne_true (listed e.0.1 these) (λ q. let r = then_is e.0.1 q in
            true≢false (sym (together_turned (known b) v' (f i) e.0.1 (subst (λ z. together (known b) v' (f i) z ≡ true) r.3 (within r.0 r.1 r.2 (subst (λ z. together (known b) c (f i) z ≡ true) (sym r.3) near)))) ∙ e.2.not_second)) in
            let found = first_of (f i, e.0.1) (parting_pairs (known b) c these) (parting_has (known b) c these (f i) e.0.1 fb e.2.second_below (covered_then i hi covers_i) outside near) in
            (found.0, found.1, parting_is (known b) c these found.0 found.2)

        e : ℕ × ℕ
        e = some_pair.0

        parts : IsParting (known b) c these e
        unfolding e
        parts = some_pair.2

        is_moved : old_cell_changes a b later m t ≡ map (moved e) (places (known b))
        unfolding e
        is_moved = by_source ∙ ap (λ o. map (part_under o (known b) these) (places (known b))) is_c ∙ ap (λ o. map (with_first moved o) (places (known b))) some_pair.1

        differ : e.0 ≡ e.1 → ⊥
        differ q = true≢false (sym parts.has_first ∙ ap (λ z. listed z these) q ∙ parts.not_second)

        pub pair_fits : FitsBy Lattice (known b) later m (old_cell_changes a b later m t)
        pair_fits = inr (inr (record {
          levels = c;
          is_source = is_c;
          pair = e;
          first_below = parts.first_below;
          second_below = parts.second_below;
          differ = differ;
          joined = parts.joined;
          is = is_moved;
        }))

        pub pair_sum : total (old_changes a b (old_cell_changes a b later m t)) (covered (known a) t) ≡ pos 1
        pair_sum = ap (λ ch. total (old_changes a b ch) (covered (known a) t)) is_moved ∙ one_there (moved e) t begin.0 begin.1 begin.2 each
          where
            begin : (j : ℕ) × (j < n) × (covers (known a) t j ≡ true) × (f j ≡ e.0)
            begin = then_is e.0 parts.has_first

            each : (j : ℕ) → j < n → covers (known a) t j ≡ true → moved e (f j) ≡ at_one begin.0 (pos 1) j
            each j hj cj = ap₂ (λ x y. cond x (pos 1) (cond y (negsuc 0) (pos 0))) (ap (eqb (f j)) (sym begin.3) ∙ one_place a b old new na nb co j begin.0 hj begin.1)
                (false_from_ne_true (eqb (f j) e.1) (λ q. true≢false (sym (covered_then j hj cj) ∙ ap (λ z. listed z these) (eqb-true (f j) e.1 q) ∙ parts.not_second)))

      -- where there is no later source, one place alone
      one_sum : source later m ≡ None → total (old_changes a b (old_cell_changes a b later m t)) (covered (known a) t) ≡ pos 1
      one_sum none = ap (λ ch. total (old_changes a b ch) (covered (known a) t)) is_plus ∙ one_there (plus_at p) t begin.0 begin.1 begin.2 each
        where
          found : (q : ℕ) × (first (filter (λ j. listed j these) (places (known b))) ≡ Some q) × IsIn q (filter (λ j. listed j these) (places (known b)))
          found = first_of (f i) (filter (λ j. listed j these) (places (known b))) (filter_has (λ j. listed j these) (f i) (places (known b)) (covered_then i hi covers_i) (in_places (known b) (f i) (below_there a b old new na nb co i hi)))

          p : ℕ
          p = found.0

          is_plus : old_cell_changes a b later m t ≡ map (plus_at p) (places (known b))
          is_plus = by_source ∙ ap (λ o. map (part_under o (known b) these) (places (known b))) none ∙ ap (λ o. map (with_first plus_at o) (places (known b))) found.1

          begin : (j : ℕ) × (j < n) × (covers (known a) t j ≡ true) × (f j ≡ p)
          begin = then_is p (IsIn-filter (λ j. listed j these) p (places (known b)) found.2).0

          each : (j : ℕ) → j < n → covers (known a) t j ≡ true → plus_at p (f j) ≡ at_one begin.0 (pos 1) j
          each j hj cj = ap (λ x. cond x (pos 1) (pos 0)) (ap (eqb (f j)) (sym begin.3) ∙ one_place a b old new na nb co j begin.0 hj begin.1)

      pub lattice_old : FitsBy Lattice (known b) later m (old_cell_changes a b later m t) × (total (old_changes a b (old_cell_changes a b later m t)) (covered (known a) t) ≡ pos 1)
      lattice_old = go (source later m) refl
        where
          go : (o : Option (List ℕ)) → source later m ≡ o → FitsBy Lattice (known b) later m (old_cell_changes a b later m t) × (total (old_changes a b (old_cell_changes a b later m t)) (covered (known a) t) ≡ pos 1)
          go None q = (inl q, one_sum q)
          go (Some c) q = (pair_fits c q, pair_sum c q)
