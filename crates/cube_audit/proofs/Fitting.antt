-- The cell that is not kept is a protected one, and of members that there are.
use Rattle.std.proofs.Common.{◌≡◌, refl, sym, ap, ◌∙◌, subst, inl, inr, ℕ, ◌<◌, Bool, true, false, cond, not, List, [], ◌∷◌, length, find, Option, Some, None, ℤ, arith}
use Rattle.std.proofs.lemmas.List.{length-map}
use Rattle.cube_model.specs.declared.cell.Cell.{Cell}
use Rattle.cube_model.specs.declared.entry.Entry.{Entry}
use Rattle.cube_model.specs.declared.policy.Method.{Method}
use Rattle.cube_model.specs.declared.policy.Method.TheVariants.{Plain, Lattice, Parity}
use Rattle.cube_model.specs.declared.policy.Policy.{Policy}
use Rattle.cube_model.specs.Cores.{Core, IsCore, shown}
use Rattle.cube_model.specs.Cubes.{IsIn, are_levels, key_at, count_from}
use Rattle.cube_model.specs.Dims.{plains}
use Rattle.cube_model.specs.Kept.{uncut_by, cell_at, unkept_by, unkept}
use Rattle.cube_model.specs.Links.{suiting, has_plus}
use Rattle.cube_model.specs.Policies.{IsPolicy, IsObject}
use Rattle.cube_model.specs.Protection.{method, protected, guarded, is_cut, core_cell}
use Rattle.cube_model.specs.Verdicts.{source, links_of, fixed_by}
use Rattle.cube_model.proofs.Histories.{length-levels, Each-at}
use Rattle.cube_model.proofs.Members.{same_eq, count_from_has, IsIn-count_from}
use Rattle.cube_model.proofs.Objects.{protected_are}
use Rattle.cube_model.proofs.Parities.{guarded_below}
use Rattle.cube_model.proofs.Ranks.{finer_levels}
use Rattle.cube_text.specs.Keys.{KeyFits}
use Rattle.cube_answers.specs.VerdictText.{CellFits}
use Rattle.cube_answers.proofs.Keys.{key_there, point_at, cell_fits}
use Rattle.cube_audit.specs.Audits.{unless_fixed, kept_or_fixed}
use Rattle.cube_audit.specs.AuditText.{IsThere}

-- what is found is in the list
pub found_in : {X : Type 0} (p : X → Bool) (xs : List X) (x : X) → find p xs ≡ Some x → IsIn x xs
found_in p [] x e = absurd (cc)
found_in p (y ∷ ys) x e = go (p y) (found_in p ys x) e
  where
    go : (b : Bool) → (find p ys ≡ Some x → IsIn x ys) → cond b (Some y) (find p ys) ≡ Some x → IsIn x (y ∷ ys)
    go true again e = inl (cc)
    go false again e = inr (again e)

lattice_fits : (c : Core) (p : Policy) (m : ℕ) (t : Cell) → IsCore c → IsPolicy c.dims p → method (shown c p) m ≡ Lattice → IsIn t (protected (shown c p) m) → CellFits c.dims t
unfolding key_at
lattice_fits c p m t ok policy way within =
    let it = (protected_are (shown c p) m t way).0 within in
    let rules : IsObject c.dims p it.0 = Each-at (IsObject c.dims p) it.0 p.objects policy.objects it.1 in
    let levels : are_levels (plains c.dims) t.levels ≡ true = finer_levels (plains c.dims) t.levels it.0.levels it.3 rules.levels in
    let long : length t.levels ≡ length c.dims.dimensions = length-levels (plains c.dims) t.levels levels ∙ simp length-map in
    let place = point_at c p it.5 ok (count_from_has it.5 0 (length c.shape.points) (omega arith) (let below = it.6 in omega (arith, below))) in
    let there = key_there c.dims t.levels _ ok.dims long place in
    let key : key_at (shown c p) t.levels it.5 ≡ t.key = same_eq (key_at (shown c p) t.levels it.5) t.key it.8 in
    record { levels = long; key = ap length (sym key) ∙ there.0; there = subst (KeyFits c.dims t.levels) key there.1 }

module _ (c : Core) (p : Policy) (ok : IsCore c) (policy : IsPolicy c.dims p) (h : List Entry) where
  by_source : (m : ℕ) (t : Cell) (o : Option (List ℕ)) → method (shown c p) m ≡ Lattice → uncut_by (shown c p) m o ≡ Some t → CellFits c.dims t
  by_source m t None way e = absurd (cc)
  by_source m t (Some levels) way e = lattice_fits c p m t ok policy way (found_in (λ s. not (is_cut (shown c p) levels s)) (protected (shown c p) m) t e)

  by_place : (m : ℕ) (t : Cell) (o : Option ℕ) → ((i : ℕ) → o ≡ Some i → i < length c.shape.points) → cell_at (shown c p) o ≡ Some t → CellFits c.dims t
  unfolding key_at
  by_place m t None below e = absurd (cc)
  by_place m t (Some i) below e =
      let same : core_cell (shown c p) i ≡ t = cc in
      subst (CellFits c.dims) same (cell_fits c i ok (below i refl))

  pub unkept_fits : (m : ℕ) (t : Cell) → unkept (shown c p) h m ≡ Some t → CellFits c.dims t
  unkept_fits m t e = go (method (shown c p) m) refl e
    where
      lists : List (List ℤ)
      lists = suiting (length c.shape.points) (links_of (shown c p) h m)

      go : (way : Method) → method (shown c p) m ≡ way → unkept_by way (shown c p) h m ≡ Some t → CellFits c.dims t
      go Plain way e = absurd (cc)
      go Lattice way e = by_source m t (source h m) way e
      go Parity way e = by_place m t (fixed_by lists (guarded (shown c p) m)) (λ i f. guarded_below (shown c p) m i (found_in (λ j. not (has_plus lists j)) (guarded (shown c p) m) i f)) e

  fits_from : (n : ℕ) (ms : List ℕ) → ((m : ℕ) → IsIn m ms → m < length c.dims.measures) → IsThere c.dims (kept_or_fixed n (shown c p) h ms)
  fits_from n [] below = tt
  fits_from n (m ∷ ms) below = go (unkept (shown c p) h m) refl (fits_from n ms (λ k i. below k (inr i)))
    where
      go : (o : Option Cell) → unkept (shown c p) h m ≡ o → IsThere c.dims (kept_or_fixed n (shown c p) h ms) → IsThere c.dims (unless_fixed m (kept_or_fixed n (shown c p) h ms) o)
      go None e rest = rest
      go (Some t) e rest = (below m (inl refl), unkept_fits m t e)

  pub all_there : (n : ℕ) → IsThere c.dims (kept_or_fixed n (shown c p) h (count_from 0 (length c.dims.measures)))
  all_there n = fits_from n (count_from 0 (length c.dims.measures)) (λ m i. let b = (IsIn-count_from m 0 (length c.dims.measures) i).1 in omega (arith, b))
