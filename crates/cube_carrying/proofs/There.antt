-- What a stop is about is there.
use Rattle.std.proofs.Common.{◌≡◌, ℕ, ◌<◌, inl, inr, Bool, cond, not, List, [], ◌∷◌, length, find, Option, Some, None, refl, sym, ap, ◌∙◌, subst}
use Rattle.std.proofs.lemmas.Option.{same_Some}
use Rattle.cube_model.specs.declared.entry.Entry.{Entry}
use Rattle.cube_model.specs.declared.policy.Method.{Method}
use Rattle.cube_model.specs.declared.policy.Method.TheVariants.{Plain, Lattice, Parity}
use Rattle.cube_model.specs.Cubes.{IsIn}
use Rattle.cube_model.specs.Links.{suiting, has_plus}
use Rattle.cube_model.specs.Protection.{first, guarded, core_cell}
use Rattle.cube_model.specs.Verdicts.{source, fixed_by}
use Rattle.cube_model.proofs.Members.{tested}
use Rattle.cube_carry.specs.Carrying.{stops_by, unless_found, unless_free, carried_source, carried_links}
use Rattle.cube_carry.specs.Carrying.{Stop as stop}
use Rattle.cube_carry.specs.Names.{Named, known, measure_in}
use Rattle.cube_carrying.specs.declared.histories.Stop.{Stop}
use Rattle.cube_carrying.specs.declared.histories.Stop.TheVariants.{NoSource, Fixes}
use Rattle.cube_carrying.specs.Histories.{stop_of, IsThere}

-- what is found stands in the list
found_in : {X : Type 0} (p : X → Bool) (xs : List X) (x : X) → find p xs ≡ Some x → IsIn x xs
found_in p [] x e = absurd (cc)
found_in {X} p (y ∷ ys) x e = tested (p y)
    (λ t. inl (same_Some y x (sym (ap (λ (b : Bool). cond b (Some y) (find p ys)) t) ∙ e)))
    (λ f. inr (found_in p ys x (sym (ap (λ (b : Bool). cond b (Some y) (find p ys)) f) ∙ e)))

no_source : (b : Named) (m : ℕ) (why : Stop) → m < length b.dims.measures → Some (stop.NoSource m) ≡ Some (stop_of why) → IsThere b why
no_source b m (NoSource k) l e = subst (λ i. i < length b.dims.measures) (same e) l
  where
    same : Some (stop.NoSource m) ≡ Some (stop.NoSource k) → m ≡ k
    same e = cc
no_source b m (Fixes k t) l e = absurd (cc)

fixes : (b : Named) (m i : ℕ) (why : Stop) → m < length b.dims.measures → IsIn i (guarded (known b) m) → Some (stop.Fixes m (core_cell (known b) i)) ≡ Some (stop_of why) → IsThere b why
fixes b m i (NoSource k) l h e = absurd (cc)
fixes b m i (Fixes k t) l h e = (subst (λ j. j < length b.dims.measures) (same e) l, (i, subst (λ j. IsIn i (guarded (known b) j)) (same e) h, sym (cell e)))
  where
    same : Some (stop.Fixes m (core_cell (known b) i)) ≡ Some (stop.Fixes k t) → m ≡ k
    same e = cc

    cell : Some (stop.Fixes m (core_cell (known b) i)) ≡ Some (stop.Fixes k t) → core_cell (known b) i ≡ t
    cell e = cc

unfound : (b : Named) (m : ℕ) (o c : Option (List ℕ)) (why : Stop) → m < length b.dims.measures → first (unless_found m o c) ≡ Some (stop_of why) → IsThere b why
unfound b m None c why l e = absurd (cc)
unfound b m (Some s) None why l e = no_source b m why l e
unfound b m (Some s) (Some c) why l e = absurd (cc)

unfree : (b : Named) (m : ℕ) (o : Option ℕ) (why : Stop) → m < length b.dims.measures → ((i : ℕ) → o ≡ Some i → IsIn i (guarded (known b) m)) → first (unless_free b m o) ≡ Some (stop_of why) → IsThere b why
unfree b m None why l h e = absurd (cc)
unfree b m (Some i) why l h e = fixes b m i why l (h i refl) e

pub stop_there : (way : Method) (a b : Named) (h : List Entry) (m : ℕ) (why : Stop) → m < length b.dims.measures → first (stops_by way a b h m) ≡ Some (stop_of why) → IsThere b why
stop_there Plain a b h m why l e = absurd (cc)
stop_there Lattice a b h m why l e = unfound b m (source h (measure_in b.dims a.dims m)) (carried_source a b h m) why l e
stop_there Parity a b h m why l e = unfree b m (fixed_by (suiting (length b.shape.points) (carried_links a b h m)) (guarded (known b) m)) why l
    (λ i q. found_in (λ j. not (has_plus (suiting (length b.shape.points) (carried_links a b h m)) j)) (guarded (known b) m) i q) e
