-- Two cubes as they are where nothing is protected: what holds of their places, levels and cells whatever their policies.
use Rattle.std.specs.List.{list_all}
use Rattle.std.proofs.Common.{◌≡◌, ℕ, zero, suc, ◌<◌, true, ◌&&◌, List, [], ◌∷◌, length, map, get_or, refl, sym, ap, ap₂, ◌∙◌, subst, arith, ltb, eqb}
use Rattle.std.proofs.lemmas.Bool.{and_parts, and_from, ltb-true}
use Rattle.std.proofs.lemmas.List.{length-map, get_or_default}
use Rattle.cube_model.specs.declared.policy.Method.{Method}
use Rattle.cube_model.specs.declared.policy.Method.TheVariants.{Plain}
use Rattle.cube_model.specs.declared.policy.Policy.{Policy}
use Rattle.cube_model.specs.Cores.{Core, IsCore}
use Rattle.cube_model.specs.Cubes.{key_at, count_from, is_finer, are_levels}
use Rattle.cube_model.specs.Dims.{Dims, NamedMeasure, plains, measure_at}
use Rattle.cube_model.specs.Policies.{IsPolicy}
use Rattle.cube_model.specs.Protection.{method, protected_by, protected}
use Rattle.cube_model.proofs.Members.{count_from_has}
use Rattle.cube_model.proofs.Parities.{all_at, all_from}
use Rattle.cube_carry.specs.Continues.{Continues, has_measure, same_method, protects}
use Rattle.cube_carry.specs.Names.{Named, IsNamed, known, named, measure_in, carried_levels, carried_cell, carried_place}
use Rattle.cube_carry.proofs.Cells.{cell, cell_there, finer_there}
use Rattle.cube_carry.proofs.Cores.{cores_are_named}
use Rattle.cube_carry.proofs.Embeds.{place_there, carried_in_range}
use Rattle.cube_carry.proofs.Measures.{method_eq}
use Rattle.cube_carrying.specs.Exposed.{HasParts}
use Rattle.cube_carrying.specs.Places.{carried_places}
use Rattle.cube_carrying.proofs.Numbered.{number_at, length-numbers}

-- each measure is plain
abbrev pub open_policy : Dims → Policy
open_policy s = record { methods = map (λ (m : NamedMeasure). Plain) s.measures; objects = [] }

abbrev pub opened : Core → Named
opened c = named c (open_policy c.dims)

all_plain : (ms : List NamedMeasure) (k : ℕ) → get_or (map {B = Method} (λ (m : NamedMeasure). Plain) ms) k Plain ≡ Plain
all_plain [] k = refl
all_plain (m ∷ ms) zero = refl
all_plain (m ∷ ms) (suc k) = all_plain ms k

nothing_protected : (c : Core) (m : ℕ) → protected (known (opened c)) m ≡ []
unfolding protected
nothing_protected c m = ap (λ (w : Method). protected_by w (known (opened c)) m) (all_plain c.dims.measures m)

is_open_policy : (s : Dims) → IsPolicy s (open_policy s)
is_open_policy s = record { methods = length-map s.measures (λ (m : NamedMeasure). Plain); few = omega arith; objects = tt }

pub is_named : (c : Core) → IsCore c → IsNamed (opened c) c.cube
is_named c ok = cores_are_named c (open_policy c.dims) ok (is_open_policy c.dims)

-- a measure that is there
pub record IsThere (a b : Named) (m : ℕ) : Type 0 where
  pub there : measure_in a.dims b.dims m < length b.dims.measures
  pub way : method (known a) m ≡ method (known b) (measure_in a.dims b.dims m)

pub is_there : (a b : Named) (m : ℕ) → HasParts a b → m < length a.dims.measures → IsThere a b m
is_there a b m parts h =
    let decimals = eqb (measure_at a.dims m).decimals (measure_at b.dims (measure_in a.dims b.dims m)).decimals in
    let p = and_parts (ltb (measure_in a.dims b.dims m) (length b.dims.measures) && decimals) (same_method (method (known a) m) (method (known b) (measure_in a.dims b.dims m)))
    (all_at (has_measure a b) m (count_from 0 (length a.dims.measures)) parts.measures (count_from_has m 0 (length a.dims.measures) (omega arith) (omega (arith, h)))) in
    record {
      there = ltb-true (measure_in a.dims b.dims m) (length b.dims.measures) (and_parts (ltb (measure_in a.dims b.dims m) (length b.dims.measures)) decimals p.0).0;
      way = method_eq (method (known a) m) (method (known b) (measure_in a.dims b.dims m)) p.1;
    }

has_open_measure : (c d : Core) (p q : Policy) (m : ℕ) → has_measure (named c p) (named d q) m ≡ true → has_measure (opened c) (opened d) m ≡ true
has_open_measure c d p q m h =
    let k = measure_in c.dims d.dims m in
    let front = ltb k (length d.dims.measures) && eqb (measure_at c.dims m).decimals (measure_at d.dims k).decimals in
    and_from front (same_method (method (known (opened c)) m) (method (known (opened d)) k))
    (and_parts front (same_method (method (known (named c p)) m) (method (known (named d q)) k)) h).0
    (ap₂ same_method (all_plain c.dims.measures m) (all_plain d.dims.measures k))

pub continues_open : (c d : Core) (p q : Policy) → HasParts (named c p) (named d q) → Continues (opened c) (opened d)
continues_open c d p q parts = record {
  dimensions = parts.dimensions;
  no_other = parts.no_other;
  levels = parts.levels;
  paths = parts.paths;
  measures = all_from (has_measure (opened c) (opened d)) (count_from 0 (length c.dims.measures)) (λ m h. has_open_measure c d p q m (all_at (has_measure (named c p) (named d q)) m (count_from 0 (length c.dims.measures)) parts.measures h));
  points = parts.points;
  cells = all_from (λ m. list_all (protects (opened c) (opened d) m) (protected (known (opened c)) m)) (count_from 0 (length c.dims.measures)) (λ m h. ap (list_all (protects (opened c) (opened d) m)) (nothing_protected c m));
}

module _ (c d : Core) (p q : Policy) (old : IsCore c) (new : IsCore d) (parts : HasParts (named c p) (named d q)) where
  abbrev f : ℕ → ℕ
  f = carried_place (named c p) (named d q)

  pub place_below : (i : ℕ) → i < length c.shape.points → f i < length d.shape.points
  place_below i h = place_there (opened c) (opened d) c.cube d.cube (is_named c old) (is_named d new) (continues_open c d p q parts) i h

  pub levels_there : (ls : List ℕ) → are_levels (plains c.dims) ls ≡ true → are_levels (plains d.dims) (carried_levels c.dims d.dims ls) ≡ true
  levels_there ls e = carried_in_range (opened c) (opened d) c.cube d.cube (is_named c old) (is_named d new) (continues_open c d p q parts) ls e

  pub finer_kept : (x y : List ℕ) → length x ≡ length c.dims.dimensions → is_finer x y ≡ true → is_finer (carried_levels c.dims d.dims x) (carried_levels c.dims d.dims y) ≡ true
  finer_kept x y long e = finer_there (opened c) (opened d) c.cube d.cube (is_named c old) (is_named d new) (continues_open c d p q parts) x y long e

  pub places_long : (js : List ℕ) → js ≡ carried_places c d → length js ≡ length c.shape.points
  places_long js is = ap length is ∙ length-numbers f (length c.shape.points)

  pub places_below : (js : List ℕ) → js ≡ carried_places c d → (k e : ℕ) → k < length js → get_or js k e < length d.shape.points
  places_below js is k e l =
      let size = places_long js is in
      let b : k < length c.shape.points = omega (arith, size, l) in
      subst (λ (y : ℕ). y < length d.shape.points) (sym (ap (λ (ks : List ℕ). get_or ks k 0) is ∙ number_at f (length c.shape.points) k b) ∙ get_or_default js k 0 e l) (place_below k b)

  -- the cell of an old place is carried to that of its new place
  pub cell_kept : (v : List ℕ) (i : ℕ) → length v ≡ length c.dims.dimensions → i < length c.shape.points
      → carried_cell c.dims d.dims (cell v (key_at (known (named c p)) v i)) ≡ cell (carried_levels c.dims d.dims v) (key_at (known (named d q)) (carried_levels c.dims d.dims v) (f i))
  unfolding key_at
  cell_kept v i long h = cell_there (opened c) (opened d) c.cube d.cube (is_named c old) (is_named d new) (continues_open c d p q parts) v i long h
