-- Whether a cell is among the protected cells.
use Rattle.std.specs.List.{list_all, list_any, flat_map}
use Rattle.std.proofs.Common.{◌≡◌, ℕ, Bool, true, false, ◌&&◌, List, [], ◌∷◌, map, filter, get_or, refl, sym, ap, ap₂, ◌∙◌, subst, eqb, eqb-true, leb}
use Rattle.std.proofs.lemmas.Bool.{false≢true, and_parts, and_from, eq-eqb}
use Rattle.cube_model.specs.declared.cell.Cell.{Cell}
use Rattle.cube_model.specs.declared.policy.Method.{Method}
use Rattle.cube_model.specs.declared.policy.Method.TheVariants.{Plain, Lattice, Parity}
use Rattle.cube_model.specs.declared.policy.Object.{Object}
use Rattle.cube_model.specs.declared.policy.Policy.{Policy}
use Rattle.cube_model.specs.Cores.{Core, shown}
use Rattle.cube_model.specs.Cubes.{Dimension, same, is_finer, are_levels, key_at, core, covers, places, IsIn}
use Rattle.cube_model.specs.Dims.{plains}
use Rattle.cube_model.specs.Meanings.{IsProtected}
use Rattle.cube_model.specs.Protection.{in_slice, has_fewer, under, same_cell, each_once, is_guarded, guarded, core_cell, protected_by, protected}
use Rattle.cube_model.proofs.Members.{IsIn-filter, filter_has, IsIn-map, map_has, same_eq, same_refl}
use Rattle.cube_model.proofs.Objects.{protected_are, same_cell_eq}
use Rattle.cube_model.proofs.Orders.{place_of}
use Rattle.cube_model.proofs.Sources.{place_below}
use Rattle.cube_model.proofs.Walks.{any_from, any_has, same_truth}
use Rattle.cube_source.specs.Blocks.{bare}
use Rattle.cube_source.specs.Objects.{of_measure, covers_slice}
use Rattle.cube_source.proofs.Fewer.{cell}
use Rattle.cube_source.proofs.Uncut.{covers_bare, fewer_bare, under_bare, guarded_bare}

pub same_itself : (t : Cell) → same_cell t t ≡ true
same_itself t = and_from (same t.levels t.levels) (same t.key t.key) (same_refl t.levels) (same_refl t.key)

-- an object of the measure stands at or above the cell, which covers a place of its slice and has few enough facts for it
abbrev pub stands : Core → ℕ → Cell → Object → Bool
stands c m t o = (eqb o.measure m && is_finer t.levels o.levels) && (covers_slice (bare c) t o && has_fewer (bare c) o.fewer t)

by_method : (c : Core) (p : Policy) (m : ℕ) (t : Cell) (way : Method) → get_or p.methods m Plain ≡ way → list_any (same_cell t) (protected (shown c p) m) ≡ list_any (same_cell t) (protected_by way (shown c p) m)
unfolding protected
by_method c p m t way e = ap (λ (w : Method). list_any (same_cell t) (protected_by w (shown c p) m)) e

pub plain_protects : (c : Core) (p : Policy) (m : ℕ) (t : Cell) → get_or p.methods m Plain ≡ Plain → false ≡ list_any (same_cell t) (protected (shown c p) m)
plain_protects c p m t e = sym (by_method c p m t Plain e)

pub lattice_protects : (c : Core) (p : Policy) (m : ℕ) (t : Cell) → get_or p.methods m Plain ≡ Lattice → list_any (stands c m t) p.objects ≡ list_any (same_cell t) (protected (shown c p) m)
lattice_protects c p m t way = same_truth (list_any (stands c m t) p.objects) (list_any (same_cell t) (protected (shown c p) m)) there back
  where
    there : list_any (stands c m t) p.objects ≡ true → list_any (same_cell t) (protected (shown c p) m) ≡ true
    there e =
        let o = any_from (stands c m t) p.objects e in
        let a = and_parts (eqb o.0.measure m && is_finer t.levels o.0.levels) (covers_slice (bare c) t o.0 && has_fewer (bare c) o.0.fewer t) o.2 in
        let s = and_parts (covers_slice (bare c) t o.0) (has_fewer (bare c) o.0.fewer t) a.1 in
        let b = and_parts (eqb o.0.measure m) (is_finer t.levels o.0.levels) a.0 in
        let i = any_from (λ i. covers (bare c) t i && in_slice (bare c) o.0 i) (places (bare c)) s.0 in
        let d = and_parts (covers (bare c) t i.0) (in_slice (bare c) o.0 i.0) i.2 in
        any_has (same_cell t) t (protected (shown c p) m)
        ((protected_are (shown c p) m t way).1 (o.0, o.1, eqb-true o.0.measure m b.0, b.1, sym (fewer_bare c p o.0.fewer t) ∙ s.1, i.0, place_below (bare c) i.0 i.1, d.1, sym (covers_bare c p t i.0) ∙ d.0))
        (same_itself t)

    back : list_any (same_cell t) (protected (shown c p) m) ≡ true → list_any (stands c m t) p.objects ≡ true
    back e =
        let s = any_from (same_cell t) (protected (shown c p) m) e in
        let own = subst (λ (u : Cell). IsIn u (protected (shown c p) m)) (sym (same_cell_eq t s.0 s.2)) s.1 in
        let h : IsProtected (shown c p) m t = (protected_are (shown c p) m t way).0 own in
        any_has (stands c m t) h.0 p.objects h.1
        (and_from (eqb h.0.measure m && is_finer t.levels h.0.levels) (covers_slice (bare c) t h.0 && has_fewer (bare c) h.0.fewer t)
        (and_from (eqb h.0.measure m) (is_finer t.levels h.0.levels) (eq-eqb h.0.measure m h.2) h.3)
        (and_from (covers_slice (bare c) t h.0) (has_fewer (bare c) h.0.fewer t)
        (any_has (λ i. covers (bare c) t i && in_slice (bare c) h.0 i) h.5 (places (bare c)) (place_of (bare c) h.5 h.6)
        (and_from (covers (bare c) t h.5) (in_slice (bare c) h.0 h.5) (covers_bare c p t h.5 ∙ h.8) h.7))
        (fewer_bare c p h.0.fewer t ∙ h.4)))

-- levels are the finest where each is 0
finest_is : (ds : List Dimension) (ls : List ℕ) → are_levels ds ls ≡ true → list_all (λ l. eqb l 0) ls ≡ true → ls ≡ map {B = ℕ} (λ (d : Dimension). 0) ds
finest_is [] [] e z = refl
finest_is [] (l ∷ ls) e z = absurd (false≢true e)
finest_is (d ∷ ds) [] e z = absurd (false≢true e)
finest_is (d ∷ ds) (l ∷ ls) e z =
    let p = and_parts (eqb l 0) (list_all (λ l. eqb l 0) ls) z in
    ap₂ (λ (k : ℕ) (ks : List ℕ). k ∷ ks) (eqb-true l 0 p.0) (finest_is ds ls (and_parts (leb l d.levels) (are_levels ds ls) e).1 p.1)

zeros_are : (ds : List Dimension) → list_all (λ l. eqb l 0) (map {B = ℕ} (λ (d : Dimension). 0) ds) ≡ true
zeros_are [] = refl
zeros_are (d ∷ ds) = zeros_are ds

abbrev pub guards : Core → Policy → ℕ → Cell → ℕ → Bool
guards c p m t i = covers (bare c) t i && is_guarded (bare c) (of_measure m p.objects) i

made : (c : Core) (p : Policy) (t : Cell) (i : ℕ) → t.levels ≡ core (bare c) → covers (bare c) t i ≡ true → core_cell (shown c p) i ≡ t
unfolding key_at
made c p t i e h = ap₂ cell (sym e) (ap (λ (ls : List ℕ). key_at (bare c) ls i) (sym e) ∙ same_eq (key_at (bare c) t.levels i) t.key h)

pub parity_protects : (c : Core) (p : Policy) (m : ℕ) (t : Cell) → get_or p.methods m Plain ≡ Parity → are_levels (plains c.dims) t.levels ≡ true
    → (list_all (λ l. eqb l 0) t.levels && list_any (guards c p m t) (places (bare c))) ≡ list_any (same_cell t) (protected (shown c p) m)
unfolding key_at
parity_protects c p m t way valid = same_truth (list_all (λ l. eqb l 0) t.levels && list_any (guards c p m t) (places (bare c))) (list_any (same_cell t) (map (core_cell (shown c p)) (guarded (shown c p) m))) there back ∙ sym (by_method c p m t Parity way)
  where
    there : (list_all (λ l. eqb l 0) t.levels && list_any (guards c p m t) (places (bare c))) ≡ true → list_any (same_cell t) (map (core_cell (shown c p)) (guarded (shown c p) m)) ≡ true
    there e =
        let a = and_parts (list_all (λ l. eqb l 0) t.levels) (list_any (guards c p m t) (places (bare c))) e in
        let i = any_from (guards c p m t) (places (bare c)) a.1 in
        let b = and_parts (covers (bare c) t i.0) (is_guarded (bare c) (of_measure m p.objects) i.0) i.2 in
        let own = map_has (core_cell (shown c p)) i.0 (guarded (shown c p) m) (filter_has (is_guarded (shown c p) (of_measure m p.objects)) i.0 (places (shown c p)) b.1 i.1) in
        any_has (same_cell t) t (map (core_cell (shown c p)) (guarded (shown c p) m))
        (subst (λ (u : Cell). IsIn u (map (core_cell (shown c p)) (guarded (shown c p) m))) (made c p t i.0 (finest_is (plains c.dims) t.levels valid a.0) b.0) own)
        (same_itself t)

    back : list_any (same_cell t) (map (core_cell (shown c p)) (guarded (shown c p) m)) ≡ true → (list_all (λ l. eqb l 0) t.levels && list_any (guards c p m t) (places (bare c))) ≡ true
    back e =
        let s = any_from (same_cell t) (map (core_cell (shown c p)) (guarded (shown c p) m)) e in
        let i = IsIn-map (core_cell (shown c p)) s.0 (guarded (shown c p) m) s.1 in
        let b = IsIn-filter (is_guarded (shown c p) (of_measure m p.objects)) i.0 (places (shown c p)) i.1 in
        let is : core_cell (shown c p) i.0 ≡ t = i.2 ∙ sym (same_cell_eq t s.0 s.2) in
        and_from (list_all (λ l. eqb l 0) t.levels) (list_any (guards c p m t) (places (bare c)))
        (ap (λ (u : Cell). list_all (λ l. eqb l 0) u.levels) (sym is) ∙ zeros_are (plains c.dims))
        (any_has (guards c p m t) i.0 (places (bare c)) b.1
        (and_from (covers (bare c) t i.0) (is_guarded (bare c) (of_measure m p.objects) i.0)
        (covers_bare c p t i.0 ∙ ap (λ (u : Cell). covers (shown c p) u i.0) (sym is) ∙ same_refl (key_at (shown c p) (core (shown c p)) i.0)) b.0))

-- ---- all protected cells

pub of_method : (c : Core) (p : Policy) (m : ℕ) (way : Method) → get_or p.methods m Plain ≡ way → protected (shown c p) m ≡ protected_by way (shown c p) m
unfolding protected
of_method c p m way e = ap (λ (w : Method). protected_by w (shown c p) m) e

pub lattice_all : (c : Core) (p : Policy) (m : ℕ) → get_or p.methods m Plain ≡ Lattice → each_once (flat_map (under (bare c)) (of_measure m p.objects)) ≡ protected (shown c p) m
lattice_all c p m e = ap each_once (under_bare c p (of_measure m p.objects)) ∙ sym (of_method c p m Lattice e)

pub parity_all : (c : Core) (p : Policy) (m : ℕ) → get_or p.methods m Plain ≡ Parity → map (core_cell (bare c)) (filter (is_guarded (bare c) (of_measure m p.objects)) (places (bare c))) ≡ protected (shown c p) m
parity_all c p m e = guarded_bare c p m ∙ sym (of_method c p m Parity e)
