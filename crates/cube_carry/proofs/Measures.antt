-- The measures of two cubes, by their names, and what a history has on a measure that is not there.
use Rattle.std.proofs.Common.{◌≡◌, ℕ, ◌<◌, ◌≤◌, true, cond, ◌&&◌, ◌==◌, List, [], ◌∷◌, length, flat_map, refl, sym, ap, ◌∙◌, subst, arith, ltb, None, ℤ}
use Rattle.std.proofs.lemmas.Bool.{false≢true, and_parts, ltb-true, eqb-true}
use Rattle.std.proofs.lemmas.List.{get_or-map, length-map}
use Rattle.cube_model.specs.declared.entry.Entry.{Entry}
use Rattle.cube_model.specs.declared.entry.Entry.TheVariants.{Asked, Source, Linked}
use Rattle.cube_model.specs.declared.policy.Method.{Method}
use Rattle.cube_model.specs.declared.policy.Method.TheVariants.{Plain, Lattice, Parity}
use Rattle.cube_model.specs.declared.request.What.{What}
use Rattle.cube_model.specs.declared.request.What.TheVariants.{Count, Measure}
use Rattle.cube_model.specs.Cubes.{Public, place_of, count_from, are_levels}
use Rattle.cube_model.specs.Dims.{Dims, AreDistinct, measure_names, measure_at, no_measure}
use Rattle.cube_model.specs.Requests.{is_valid, is_there, is_measure, fits}
use Rattle.cube_model.specs.Protection.{method, is_lattice, is_parity}
use Rattle.cube_model.specs.Entries.{is_on, on, is_allowed, is_link, links_in}
use Rattle.cube_model.specs.Verdicts.{source, links_of}
use Rattle.cube_model.proofs.Compacts.{source_nothing}
use Rattle.cube_model.proofs.DimsFacts.{place_of-own}
use Rattle.cube_model.proofs.Histories.{AreAllowed}
use Rattle.cube_model.proofs.Members.{tested, count_from_has}
use Rattle.cube_model.proofs.Parities.{all_at}
use Rattle.cube_model.proofs.Worlds.{in_list}
use Rattle.cube_carry.specs.Names.{Named, known, IsNamed, measure_in}
use Rattle.cube_carry.specs.Continues.{Continues, has_measure, same_method}
use Rattle.cube_carry.proofs.Orders.{stands_there}

-- ---- by their names
pub measure_name : (s z : Dims) (m : ℕ) → measure_in s z m < length z.measures → (measure_at z (measure_in s z m)).name ≡ (measure_at s m).name
measure_name s z m h = sym (get_or-map (λ x. x.name) z.measures (measure_in s z m) no_measure [] h) ∙ stands_there (measure_at s m).name (measure_names z) (let e = length-map z.measures (λ x. x.name) in omega (arith, e, h))

-- there and back
pub measure_back : (s z : Dims) (m : ℕ) → AreDistinct (measure_names s) → m < length s.measures → measure_in s z m < length z.measures → measure_in z s (measure_in s z m) ≡ m
measure_back s z m once h there = ap (λ x. place_of x (measure_names s)) (measure_name s z m there ∙ sym (get_or-map (λ x. x.name) s.measures m no_measure [] h)) ∙ place_of-own (measure_names s) once m (let e = length-map s.measures (λ x. x.name) in omega (arith, e, h))

pub method_eq : (x y : Method) → same_method x y ≡ true → x ≡ y
method_eq Plain Plain e = refl
method_eq Plain Lattice e = absurd (false≢true e)
method_eq Plain Parity e = absurd (false≢true e)
method_eq Lattice Plain e = absurd (false≢true e)
method_eq Lattice Lattice e = refl
method_eq Lattice Parity e = absurd (false≢true e)
method_eq Parity Plain e = absurd (false≢true e)
method_eq Parity Lattice e = absurd (false≢true e)
method_eq Parity Parity e = refl

-- each measure of the old cube is in the new one, under its method
pub record IsFound (a b : Named) (m : ℕ) : Type 0 where
  pub there : measure_in a.dims b.dims m < length b.dims.measures
  pub way : method (known a) m ≡ method (known b) (measure_in a.dims b.dims m)

pub is_found : (a b : Named) (m : ℕ) → Continues a b → m < length a.dims.measures → IsFound a b m
is_found a b m co h =
    let p = and_parts (ltb (measure_in a.dims b.dims m) (length b.dims.measures) && (measure_at a.dims m).decimals == (measure_at b.dims (measure_in a.dims b.dims m)).decimals) (same_method (method (known a) m) (method (known b) (measure_in a.dims b.dims m)))
    (all_at (has_measure a b) m (count_from 0 (length a.dims.measures)) co.measures (count_from_has m 0 (length a.dims.measures) (omega arith) (omega (arith, h)))) in
    record {
      there = ltb-true (measure_in a.dims b.dims m) (length b.dims.measures) (and_parts (ltb (measure_in a.dims b.dims m) (length b.dims.measures)) _ p.0).0;
      way = method_eq (method (known a) m) (method (known b) (measure_in a.dims b.dims m)) p.1;
    }

-- a measure of the new cube that the old one had
pub record Had (a b : Named) (m : ℕ) : Type 0 where
  pub back : measure_in a.dims b.dims (measure_in b.dims a.dims m) ≡ m
  pub way : method (known a) (measure_in b.dims a.dims m) ≡ method (known b) m

pub had : (a b : Named) (new : List (List ℤ)) (m : ℕ) → IsNamed b new → Continues a b → m < length b.dims.measures → measure_in b.dims a.dims m < length a.dims.measures → Had a b m
had a b new m nb co h k =
    let e = measure_back b.dims a.dims m nb.measures h k in
    record { back = e; way = (is_found a b (measure_in b.dims a.dims m) co k).way ∙ ap (method (known b)) e }

-- a measure that is not open is there
pub is_controlled : (a : Named) (values : List (List ℤ)) (m : ℕ) → IsNamed a values → (method (known a) m ≡ Plain → ⊥) → m < length a.dims.measures
is_controlled a values m na way = let l = in_list a.policy.methods m way in let e = na.methods in omega (arith, l, e)

-- ---- no entry is on a measure that is not there
asked_there : (g : Public) (m : ℕ) (what : What) → is_there g what ≡ true → is_measure m what ≡ true → m < length g.policy.methods
asked_there g m Count t e = absurd (false≢true e)
asked_there g m (Measure k) t e = let a = ltb-true k (length g.policy.methods) t in let b = eqb-true k m e in omega (arith, a, b)

entry_there : (g : Public) (m : ℕ) (e : Entry) → is_allowed g e ≡ true → is_on m e ≡ true → m < length g.policy.methods
unfolding is_allowed is_valid
entry_there g m (Asked r) a o = asked_there g m r.what (and_parts (fits g.dimensions r.group r.picks) (is_there g r.what) (and_parts (fits g.dimensions r.group r.picks && is_there g r.what) _ a).0).1 o
entry_there g m (Source k c) a o = subst (λ n. n < length g.policy.methods) (eqb-true k m o) (in_list g.policy.methods k (λ p. false≢true (sym (ap is_lattice p) ∙ (and_parts (is_lattice (method g k)) (are_levels g.dimensions c) a).0)))
entry_there g m (Linked k l) a o = subst (λ n. n < length g.policy.methods) (eqb-true k m o) (in_list g.policy.methods k (λ p. false≢true (sym (ap is_parity p) ∙ (and_parts (is_parity (method g k)) (is_link (length g.shape.points) l) a).0)))

pub nothing_on : (g : Public) (m : ℕ) (h : List Entry) → AreAllowed g h → length g.policy.methods ≤ m → on m h ≡ []
nothing_on g m [] a k = refl
nothing_on g m (e ∷ h) a k = tested (is_on m e)
    (λ t. let l = entry_there g m e a.0 t in absurd (omega (arith, l, k)))
    (λ f. ap (λ b. cond b (e ∷ on m h) (on m h)) f ∙ nothing_on g m h a.1 k)

pub no_links : (g : Public) (m : ℕ) (h : List Entry) → AreAllowed g h → length g.policy.methods ≤ m → links_of g h m ≡ []
unfolding links_of
no_links g m h a k = ap (flat_map (links_in g)) (nothing_on g m h a k)

pub no_source : (g : Public) (m : ℕ) (h : List Entry) → AreAllowed g h → length g.policy.methods ≤ m → source h m ≡ None
no_source g m h a k = source_nothing h m (nothing_on g m h a k)
