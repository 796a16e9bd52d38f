-- The policies of the tests keep the rules.
use Rattle.std.proofs.Common.{◌≡◌, ℕ, zero, suc, ◌≤◌, ◌⊎◌, inl, inr, true, List, [], ◌∷◌, length, map, get_or, Option, Some, None, refl, sym, ap, subst, arith, leb}
use Rattle.std.proofs.lemmas.Bool.{and_from, le-leb}
use Rattle.std.proofs.lemmas.List.{length-map}
use Rattle.cube_fixtures.specs.declared.policies.Guard.{Guard}
use Rattle.cube_fixtures.specs.Policies.{object_of, policy_of, field_policy, within, IsArea, CanHold, CanHoldAt, IsGuard}
use Rattle.cube_fixtures.specs.Worked.{two, pay_core, some_fields, region}
use Rattle.cube_model.specs.declared.policy.Method.{Method}
use Rattle.cube_model.specs.declared.policy.Method.TheVariants.{Plain, Lattice, Parity}
use Rattle.cube_model.specs.declared.policy.Policy.{Policy}
use Rattle.cube_model.specs.declared.policy.Within.{Within}
use Rattle.cube_model.specs.Cubes.{are_levels, Each}
use Rattle.cube_model.specs.Dims.{NamedDimension, plains, members}
use Rattle.cube_model.specs.Policies.{are_rising, IsWithin, IsObject, IsPolicy}

slice_fine : (area : Option ℕ) → IsArea area → Each (IsWithin pay_core.dims) (within area)
slice_fine None h = tt
slice_fine (Some a) h =
    let areas : length (members region 1) ≡ 2 = refl in
    (record { dimension = omega arith; level = omega arith; some = omega arith; rising = refl; in_range = (omega (arith, areas, h), tt) }, tt)

turn_fine : (area : Option ℕ) → are_rising (map (λ (w : Within). w.dimension) (within area)) ≡ true
turn_fine None = refl
turn_fine (Some a) = refl

method_fine : (method : Method) (level : ℕ) → CanHold method level → (method ≡ Lattice) ⊎ ((method ≡ Parity) × (two level 0 ≡ map {B = ℕ} (λ (d : NamedDimension). 0) pay_core.dims.dimensions))
method_fine Plain level h = absurd h
method_fine Lattice level h = inl refl
method_fine Parity level h = inr (refl, ap (λ (l : ℕ). two l 0) h)

low : (method : Method) (level : ℕ) → CanHold method level → level ≤ 2
low Plain level h = absurd h
low Lattice level h = h
low Parity level h = omega (arith, h)

levels_fine : (level : ℕ) → level ≤ 2 → are_levels (plains pay_core.dims) (two level 0) ≡ true
levels_fine level l = and_from (leb level 2) true (le-leb level 2 l) refl

-- an object without a number of facts has none out of range
unbounded : (o : Option ℕ) → o ≡ None → (n : ℕ) → o ≡ Some n → (2 ≤ n) × (n ≤ 1000)
unbounded o none n e = absurd (cc)

object_fine : (pay hours : Method) (p : Policy) (m level : ℕ) (area : Option ℕ) → p.methods ≡ pay ∷ hours ∷ [] → IsArea area → CanHoldAt pay hours m level
    → IsObject pay_core.dims p (record { measure = m; levels = two level 0; slice = within area; fewer = None })
object_fine pay hours p zero level area e a h = record {
  measure = omega arith;
  levels = levels_fine level (low pay level h);
  slice = slice_fine area a;
  in_turn = turn_fine area;
  method = method_fine (get_or p.methods 0 Plain) level (subst (λ (m : Method). CanHold m level) (sym (ap (λ (l : List Method). get_or l 0 Plain) e)) h);
  fewer = unbounded None refl;
}
object_fine pay hours p (suc zero) level area e a h = record {
  measure = omega arith;
  levels = levels_fine level (low hours level h);
  slice = slice_fine area a;
  in_turn = turn_fine area;
  method = method_fine (get_or p.methods 1 Plain) level (subst (λ (m : Method). CanHold m level) (sym (ap (λ (l : List Method). get_or l 1 Plain) e)) h);
  fewer = unbounded None refl;
}
object_fine pay hours p (suc (suc m)) level area e a h = absurd h

objects_fine : (pay hours : Method) (p : Policy) (guards : List Guard) → p.methods ≡ pay ∷ hours ∷ [] → Each (IsGuard pay hours) guards → Each (IsObject pay_core.dims p) (map object_of guards)
objects_fine pay hours p [] e h = tt
objects_fine pay hours p (g ∷ guards) e h = (object_fine pay hours p g.measure g.level g.area e h.0.0 h.0.1, objects_fine pay hours p guards e h.1)

pub guarded : (pay hours : Method) (guards : List Guard) → length guards ≤ 64 → Each (IsGuard pay hours) guards → IsPolicy pay_core.dims (policy_of pay hours guards)
guarded pay hours guards few h = record {
  methods = refl;
  few = omega (arith, few, length-map guards object_of);
  objects = objects_fine pay hours (policy_of pay hours guards) guards refl h;
}

pub fields_guarded : IsPolicy some_fields.dims field_policy
fields_guarded = record { methods = refl; few = omega arith; objects = tt }
