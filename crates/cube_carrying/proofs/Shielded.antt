-- What suffices for a new cube to protect a cell that an old one protects.
use Rattle.std.specs.List.{flat_map}
use Rattle.std.proofs.Common.{◌≡◌, ℕ, zero, suc, ◌<◌, true, not, ◌&&◌, List, [], ◌∷◌, length, map, filter, find, get_or, Option, Some, None, is_none, refl, sym, ap, ap₂, ◌∙◌, subst, arith, eqb, eqb-true}
use Rattle.std.proofs.lemmas.Bool.{and_parts}
use Rattle.std.proofs.lemmas.List.{length-map}
use Rattle.cube_model.specs.declared.cell.Cell.{Cell}
use Rattle.cube_model.specs.declared.policy.Method.{Method}
use Rattle.cube_model.specs.declared.policy.Method.TheVariants.{Plain, Lattice, Parity}
use Rattle.cube_model.specs.declared.policy.Object.{Object}
use Rattle.cube_model.specs.declared.policy.Policy.{Policy}
use Rattle.cube_model.specs.Cores.{Core, IsCore}
use Rattle.cube_model.specs.Cubes.{Public, Dimension, key_at, core, covers, places, is_finer, IsIn}
use Rattle.cube_model.specs.Dims.{NamedDimension, plain, plains}
use Rattle.cube_model.specs.Policies.{IsPolicy}
use Rattle.cube_model.specs.Protection.{method, in_slice, has_fewer, under, same_cell, core_cell, is_guarded, guarded, protected_by, protected}
use Rattle.cube_model.proofs.Members.{filter_has, map_has, same_eq, same_refl}
use Rattle.cube_model.proofs.Objects.{protected_are}
use Rattle.cube_model.proofs.Orders.{place_of}
use Rattle.cube_model.proofs.Walks.{any_from, any_has}
use Rattle.cube_carry.specs.Continues.{protects}
use Rattle.cube_carry.specs.Names.{known, named, measure_in, dimension_in, carried_levels, carried_cell, carried_place}
use Rattle.cube_carry.proofs.Cells.{cell}
use Rattle.cube_carry.proofs.Orders.{levels_at, length-plains}
use Rattle.cube_source.specs.Blocks.{bare}
use Rattle.cube_source.specs.Objects.{of_measure}
use Rattle.cube_source.proofs.Among.{same_itself, lattice_all, parity_all}
use Rattle.cube_source.proofs.Uncut.{covers_bare, find_once}
use Rattle.cube_carrying.specs.Exposed.{HasParts}
use Rattle.cube_carrying.specs.KeptCells.{is_kept, Carries, StandsSuffice, GuardsSuffice}
use Rattle.cube_carrying.specs.Places.{carried_places}
use Rattle.cube_carrying.specs.Shields.{is_shielded, is_shielded_over}
use Rattle.cube_carrying.proofs.Opened as opened
use Rattle.cube_carrying.proofs.Opened.{is_there}
use Rattle.cube_carrying.proofs.Numbered.{number_at}

-- ---- where the cells stand

pub by_method : (c : Core) (p : Policy) (m : ℕ) (way : Method) → method (known (named c p)) m ≡ way → protected (known (named c p)) m ≡ protected_by way (known (named c p)) m
unfolding protected
by_method c p m way e = ap (λ (w : Method). protected_by w (known (named c p)) m) e

zero_at : (ds : List Dimension) (k : ℕ) → get_or (map {B = ℕ} (λ (d : Dimension). 0) ds) k 0 ≡ 0
zero_at [] k = refl
zero_at (d ∷ ds) zero = refl
zero_at (d ∷ ds) (suc k) = zero_at ds k

all_zero : (f : NamedDimension → ℕ) (es : List NamedDimension) → ((e : NamedDimension) → f e ≡ 0) → map f es ≡ map {B = ℕ} (λ (d : Dimension). 0) (map {B = Dimension} plain es)
all_zero f [] z = refl
all_zero f (e ∷ es) z = ap₂ (λ (x : ℕ) (xs : List ℕ). x ∷ xs) (z e) (all_zero f es z)

-- the finest levels are carried to the finest
core_kept : (c d : Core) (p q : Policy) → carried_levels c.dims d.dims (core (known (named c p))) ≡ core (known (named d q))
core_kept c d p q = all_zero (λ e. get_or (core (known (named c p))) (dimension_in c.dims e) 0) d.dims.dimensions (λ e. zero_at (plains c.dims) (dimension_in c.dims e))

-- an object that names no number of facts protects whatever it is
unbounded : (g : Public) (fewer : Option ℕ) (t : Cell) → is_none fewer ≡ true → has_fewer g fewer t ≡ true
unbounded g None t e = refl
unbounded g (Some n) t e = absurd (cc)

module _ (c d : Core) (p q : Policy) (old : IsCore c) (new : IsCore d) (rules : IsPolicy d.dims q) (parts : HasParts (named c p) (named d q)) (k : ℕ) (kb : k < length c.dims.measures) (m : ℕ) (is_m : m ≡ measure_in c.dims d.dims k) (js : List ℕ) (is_js : js ≡ carried_places c d) where
  abbrev g : Public
  g = known (named c p)

  abbrev h : Public
  h = known (named d q)

  abbrev f : ℕ → ℕ
  f = carried_place (named c p) (named d q)

  place_is : (i : ℕ) → i < length c.shape.points → get_or js i 0 ≡ f i
  place_is i l = ap (λ (ks : List ℕ). get_or ks i 0) is_js ∙ number_at f (length c.shape.points) i l

  same_way : (way : Method) → method g k ≡ way → method h m ≡ way
  same_way way e = ap (method h) is_m ∙ sym (is_there (named c p) (named d q) k parts kb).way ∙ e

  kept_if : (t : Cell) → IsIn (carried_cell c.dims d.dims t) (protected h m) → is_kept c d q m t ≡ true
  kept_if t is_in = any_has (same_cell (carried_cell c.dims d.dims t)) (carried_cell c.dims d.dims t) (protected h m) is_in (same_itself (carried_cell c.dims d.dims t))

  pub carries : Carries c d q m js
  carries = record {
    policy = rules;
    measure = let there = (is_there (named c p) (named d q) k parts kb).there in omega (arith, is_m, there);
    no_other = parts.no_other;
    long = opened.places_long c d p q old new parts js is_js;
    below = opened.places_below c d p q old new parts js is_js;
    levels = λ ls e. opened.levels_there c d p q old new parts ls e;
    finer = λ x y valid e. opened.finer_kept c d p q old new parts x y ((levels_at (plains c.dims) x valid).0 ∙ length-plains c.dims) e;
  }

  pub stands_suffice : method g k ≡ Lattice → StandsSuffice c d q m js
  stands_suffice way t i valid l covered over =
      let long = (levels_at (plains c.dims) t.levels valid).0 ∙ length-plains c.dims in
      let key : key_at g t.levels i ≡ t.key = same_eq (key_at g t.levels i) t.key (sym (covers_bare c p t i) ∙ covered) in
      let there : carried_cell c.dims d.dims t ≡ cell (carried_levels c.dims d.dims t.levels) (key_at h (carried_levels c.dims d.dims t.levels) (f i)) = ap (λ (ks : List ℕ). carried_cell c.dims d.dims (cell t.levels ks)) (sym key) ∙ opened.cell_kept c d p q old new parts t.levels i long l in
      let at = ap (is_shielded_over (bare d) q.objects m (carried_levels c.dims d.dims t.levels)) (sym (place_is i l)) ∙ over in
      let n = any_from (λ (o : Object). is_finer (carried_levels c.dims d.dims t.levels) o.levels && is_shielded (bare d) m o (f i)) q.objects at in
      let a = and_parts (is_finer (carried_levels c.dims d.dims t.levels) n.0.levels) (is_shielded (bare d) m n.0 (f i)) n.2 in
      let b = and_parts (eqb n.0.measure m && is_none n.0.fewer) (in_slice (bare d) n.0 (f i)) a.1 in
      let own = and_parts (eqb n.0.measure m) (is_none n.0.fewer) b.0 in
      let held : covers h (carried_cell c.dims d.dims t) (f i) ≡ true = subst (λ (u : Cell). covers h u (f i) ≡ true) (sym there) (same_refl (key_at h (carried_levels c.dims d.dims t.levels) (f i))) in
      kept_if t ((protected_are h m (carried_cell c.dims d.dims t) (same_way Lattice way)).1 (n.0, n.1, eqb-true n.0.measure m own.0, a.0, unbounded h n.0.fewer (carried_cell c.dims d.dims t) own.1, f i, opened.place_below c d p q old new parts i l, b.1, held))

  pub guards_suffice : method g k ≡ Parity → GuardsSuffice c d q m js
  unfolding key_at
  guards_suffice way i l guard =
      let at : is_guarded (bare d) (of_measure m q.objects) (f i) ≡ true = ap (is_guarded (bare d) (of_measure m q.objects)) (sym (place_is i l)) ∙ guard in
      let own = map_has (core_cell h) (f i) (guarded h m) (filter_has (is_guarded h (of_measure m q.objects)) (f i) (places h) at (place_of h (f i) (opened.place_below c d p q old new parts i l))) in
      let long = length-map (plains c.dims) (λ (d : Dimension). 0) ∙ length-plains c.dims in
      let there : carried_cell c.dims d.dims (core_cell g i) ≡ core_cell h (f i) = opened.cell_kept c d p q old new parts (core g) i long l ∙ ap (λ (ls : List ℕ). cell ls (key_at h ls (f i))) (core_kept c d p q) in
      kept_if (core_cell g i) (subst (λ (u : Cell). IsIn u (protected h m)) (sym there) (subst (IsIn (core_cell h (f i))) (sym (by_method d q m Parity (same_way Parity way))) own))

  -- ---- what is looked for

  pub plain_none : method g k ≡ Plain → find (λ t. not (protects (named c p) (named d q) k t)) (protected g k) ≡ None
  plain_none way = ap (find (λ t. not (protects (named c p) (named d q) k t))) (by_method c p k Plain way)

  same_test : (ts : List Cell) → find (λ t. not (is_kept c d q m t)) ts ≡ find (λ t. not (protects (named c p) (named d q) k t)) ts
  same_test ts = ap (λ (n : ℕ). find (λ t. not (is_kept c d q n t)) ts) is_m

  pub lattice_first : method g k ≡ Lattice → find (λ t. not (is_kept c d q m t)) (flat_map (under (bare c)) (of_measure k p.objects)) ≡ find (λ t. not (protects (named c p) (named d q) k t)) (protected g k)
  lattice_first way =
      sym (find_once (λ t. not (is_kept c d q m t)) (flat_map (under (bare c)) (of_measure k p.objects)))
      ∙ ap (find (λ t. not (is_kept c d q m t))) (lattice_all c p k way)
      ∙ same_test (protected g k)

  pub parity_first : method g k ≡ Parity → find (λ t. not (is_kept c d q m t)) (map (core_cell (bare c)) (filter (is_guarded (bare c) (of_measure k p.objects)) (places (bare c)))) ≡ find (λ t. not (protects (named c p) (named d q) k t)) (protected g k)
  parity_first way = ap (find (λ t. not (is_kept c d q m t))) (parity_all c p k way) ∙ same_test (protected g k)
