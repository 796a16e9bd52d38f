-- A protected cell stands at a cuboid.
use Rattle.std.specs.List.{list_any}
use Rattle.std.proofs.Common.{◌≡◌, ℕ, ◌+◌, ◌<◌, ◌≤◌, Bool, true, false, ◌&&◌, List, [], ◌∷◌, length, map, drop, get_or, refl, sym, ap, ◌∙◌, subst, arith, leb}
use Rattle.std.proofs.lemmas.Bool.{false≢true, and_parts, and_from, leb-true, le-leb}
use Rattle.std.proofs.lemmas.List.{drop_more, drop_all}
use Rattle.cube_model.specs.declared.cell.Cell.{Cell}
use Rattle.cube_model.specs.declared.policy.Method.{Method}
use Rattle.cube_model.specs.declared.policy.Method.TheVariants.{Plain, Lattice, Parity}
use Rattle.cube_model.specs.declared.policy.Policy.{Policy}
use Rattle.cube_model.specs.Cores.{Core, shown}
use Rattle.cube_model.specs.Cubes.{Dimension, is_finer, are_levels, IsIn}
use Rattle.cube_model.specs.Dims.{NamedDimension, plain, plains}
use Rattle.cube_model.specs.Policies.{IsObject, IsPolicy}
use Rattle.cube_model.specs.Protection.{method, protected, guarded, core_cell, same_cell}
use Rattle.cube_model.proofs.Histories.{Each-at}
use Rattle.cube_model.proofs.Members.{IsIn-map}
use Rattle.cube_model.proofs.Objects.{same_cell_eq, protected_are}
use Rattle.cube_model.proofs.Walks.{any_from}
use Rattle.cube_source.proofs.Among.{of_method}
use Rattle.cube_source.proofs.Keys.{finest_levels}
use Rattle.cube_reason.proofs.Made.{false_from}

finer_levels : (ds : List Dimension) (c ls : List ℕ) → is_finer c ls ≡ true → are_levels ds ls ≡ true → are_levels ds c ≡ true
finer_levels [] [] ls f e = refl
finer_levels [] (x ∷ c) [] f e = absurd (false≢true f)
finer_levels [] (x ∷ c) (l ∷ ls) f e = absurd (false≢true e)
finer_levels (d ∷ ds) [] [] f e = absurd (false≢true e)
finer_levels (d ∷ ds) [] (l ∷ ls) f e = absurd (false≢true f)
finer_levels (d ∷ ds) (x ∷ c) [] f e = absurd (false≢true f)
finer_levels (d ∷ ds) (x ∷ c) (l ∷ ls) f e =
    let p = and_parts (leb x l) (is_finer c ls) f in
    let q = and_parts (leb l d.levels) (are_levels ds ls) e in
    let a : x ≤ l = leb-true x l p.0 in
    let b : l ≤ d.levels = leb-true l d.levels q.0 in
    and_from (leb x d.levels) (are_levels ds c) (le-leb x d.levels (omega arith)) (finer_levels ds c ls p.1 q.1)

pub protected_levels : (c : Core) (p : Policy) (m : ℕ) (t : Cell) → IsPolicy c.dims p → IsIn t (protected (shown c p) m) → are_levels (plains c.dims) t.levels ≡ true
protected_levels c p m t rules k = go (method (shown c p) m) refl
  where
    go : (way : Method) → method (shown c p) m ≡ way → are_levels (plains c.dims) t.levels ≡ true
    go Plain e = absurd (subst (IsIn t) (of_method c p m Plain e) k)
    go Lattice e =
        let a = (protected_are (shown c p) m t e).0 k in
        finer_levels (plains c.dims) t.levels a.0.levels a.3 (Each-at (IsObject c.dims p) a.0 p.objects rules.objects a.1).levels
    go Parity e =
        let a = IsIn-map (core_cell (shown c p)) t (guarded (shown c p) m) (subst (IsIn t) (of_method c p m Parity e) k) in
        subst (λ (x : Cell). are_levels (plains c.dims) x.levels ≡ true) a.2 (finest_levels (plains c.dims))

pub unprotected_levels : (c : Core) (p : Policy) (m : ℕ) (t : Cell) → IsPolicy c.dims p → are_levels (plains c.dims) t.levels ≡ false → false ≡ list_any (same_cell t) (protected (shown c p) m)
unprotected_levels c p m t rules e = false_from (list_any (same_cell t) (protected (shown c p) m)) (λ h.
    let a = any_from (same_cell t) (protected (shown c p) m) h in
    false≢true (sym e ∙ protected_levels c p m t rules (subst (λ s. IsIn s (protected (shown c p) m)) (sym (same_cell_eq t a.0 a.2)) a.1)))

-- ---- levels, one after another

pub uneven_levels : (ds : List NamedDimension) (ls : List ℕ) → (length ls ≡ length ds → ⊥) → false ≡ are_levels (map plain ds) ls
uneven_levels [] [] e = absurd (e refl)
uneven_levels [] (l ∷ ls) e = refl
uneven_levels (d ∷ ds) [] e = refl
uneven_levels (d ∷ ds) (l ∷ ls) e = by (leb l (length d.levels)) (uneven_levels ds ls (λ f. e (omega (arith, f))))
  where
    by : (t : Bool) → false ≡ are_levels (map plain ds) ls → false ≡ (t && are_levels (map plain ds) ls)
    by true f = f
    by false f = refl

-- one level further
step_levels : (ds : List NamedDimension) (ls : List ℕ) (i : ℕ) (d : NamedDimension) → i < length ds → length ls ≡ length ds → d ≡ get_or ds i d → are_levels (map plain (drop i ds)) (drop i ls) ≡ (leb (get_or ls i 0) (length d.levels) && are_levels (map plain (drop (i + 1) ds)) (drop (i + 1) ls))
step_levels ds ls i d l even is =
    ap (λ (x : List NamedDimension). are_levels (map plain x) (drop i ls)) (drop_more ds i d l ∙ ap (λ (x : NamedDimension). x ∷ drop (i + 1) ds) (sym is))
    ∙ ap (are_levels (plain d ∷ map plain (drop (i + 1) ds))) (drop_more ls i 0 (omega (arith, l, even)))

pub levels_more : (ds : List NamedDimension) (ls : List ℕ) (i : ℕ) (d : NamedDimension) (all : Bool) → i < length ds → length ls ≡ length ds → d ≡ get_or ds i d → get_or ls i 0 ≤ length d.levels → are_levels (map plain (drop i ds)) (drop i ls) ≡ all → are_levels (map plain (drop (i + 1) ds)) (drop (i + 1) ls) ≡ all
levels_more ds ls i d all l even is le e = sym (ap (λ (b : Bool). b && are_levels (map plain (drop (i + 1) ds)) (drop (i + 1) ls)) (le-leb (get_or ls i 0) (length d.levels) le)) ∙ sym (step_levels ds ls i d l even is) ∙ e

pub levels_fail : (ds : List NamedDimension) (ls : List ℕ) (i : ℕ) (d : NamedDimension) (all : Bool) → i < length ds → length ls ≡ length ds → d ≡ get_or ds i d → length d.levels < get_or ls i 0 → are_levels (map plain (drop i ds)) (drop i ls) ≡ all → false ≡ all
levels_fail ds ls i d all l even is lt e =
    false_from all (λ t. let le : get_or ls i 0 ≤ length d.levels = leb-true (get_or ls i 0) (length d.levels) (and_parts (leb (get_or ls i 0) (length d.levels)) (are_levels (map plain (drop (i + 1) ds)) (drop (i + 1) ls)) (sym (step_levels ds ls i d l even is) ∙ e ∙ t)).0 in absurd (omega (arith, le, lt)))

pub levels_end : (ds : List NamedDimension) (ls : List ℕ) (i : ℕ) (all : Bool) → length ds ≤ i → length ls ≡ length ds → are_levels (map plain (drop i ds)) (drop i ls) ≡ all → true ≡ all
levels_end ds ls i all le even e = sym (ap (λ (x : List NamedDimension). are_levels (map plain x) (drop i ls)) (drop_all i ds le) ∙ ap (are_levels []) (drop_all i ls (omega (arith, le, even)))) ∙ e
