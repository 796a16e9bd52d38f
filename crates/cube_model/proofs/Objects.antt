-- What the protected cells of a lattice measure are.
use Rattle.std.proofs.Common.{◌≡◌, ℕ, suc, ◌+◌, ◌<◌, ◌≤◌, inl, inr, true, not, List, [], ◌∷◌, length, map, filter, flat_map, refl, sym, ap, ap₂, ◌∙◌, subst, arith, eqb, eqb-true, leb}
use Rattle.std.proofs.lemmas.Bool.{false≢true, and_parts, and_from, leb-true, le-leb, eq-eqb}
use Rattle.cube_model.specs.declared.cell.Cell.{Cell}
use Rattle.cube_model.specs.declared.policy.Method.TheVariants.{Lattice}
use Rattle.cube_model.specs.declared.policy.Object.{Object}
use Rattle.cube_model.specs.Cubes.{Public, same, in_order, key_at, covers, places, is_finer, cuboids_below, count_from, IsIn}
use Rattle.cube_model.specs.Protection.{in_slice, has_fewer, guards, touched, under, same_cell, each_once, protected_by, protected}
use Rattle.cube_model.specs.Meanings.{IsProtected, ProtectedAre}
use Rattle.cube_model.proofs.Members.{tested, IsIn-filter, filter_has, IsIn-map, map_has, IsIn-flat_map, flat_map_has, IsIn-count_from, count_from_has, IsIn-in_order, same_eq, same_refl}
use Rattle.cube_model.proofs.Orders.{in_order_has}
use Rattle.cube_model.proofs.Sources.{place_below, IsIn-each_once}

-- the cuboids below one are those finer than or equal to it
pub below_finer : (ls c : List ℕ) → IsIn c (cuboids_below ls) → is_finer c ls ≡ true
below_finer [] c (inl e) = subst (λ x. is_finer x [] ≡ true) e refl
below_finer [] c (inr k) = absurd k
below_finer (l ∷ ls) c h =
    let a = IsIn-flat_map (λ a. map (λ rest. a ∷ rest) (cuboids_below ls)) c (count_from 0 (suc l)) h in
    let b = IsIn-map (λ rest. a.0 ∷ rest) c (cuboids_below ls) a.2 in
    let k : a.0 < 0 + suc l = (IsIn-count_from a.0 0 (suc l) a.1).1 in
    subst (λ x. is_finer x (l ∷ ls) ≡ true) b.2 (and_from (leb a.0 l) (is_finer b.0 ls) (le-leb a.0 l (omega arith)) (below_finer ls b.0 b.1))

pub finer_below : (ls c : List ℕ) → is_finer c ls ≡ true → IsIn c (cuboids_below ls)
finer_below [] [] e = inl refl
finer_below [] (x ∷ xs) e = absurd (false≢true e)
finer_below (l ∷ ls) [] e = absurd (false≢true e)
finer_below (l ∷ ls) (x ∷ xs) e =
    let p = and_parts (leb x l) (is_finer xs ls) e in
    let k : x ≤ l = leb-true x l p.0 in
    flat_map_has (λ a. map (λ rest. a ∷ rest) (cuboids_below ls)) x (x ∷ xs) (count_from 0 (suc l)) (count_from_has x 0 (suc l) (omega arith) (omega arith)) (map_has (λ rest. x ∷ rest) xs (cuboids_below ls) (finer_below ls xs p.1))

pub cell : List ℕ → List ℕ → Cell
cell c k = record { levels = c; key = k }

pub same_cell_eq : (s t : Cell) → same_cell s t ≡ true → s ≡ t
unfolding cell
same_cell_eq s t e = let p = and_parts (same s.levels t.levels) (same s.key t.key) e in ap₂ cell (same_eq s.levels t.levels p.0) (same_eq s.key t.key p.1)

pub each_once_has : (t : Cell) (ts : List Cell) → IsIn t ts → IsIn t (each_once ts)
each_once_has t [] h = h
each_once_has t (s ∷ ts) (inl e) = inl e
each_once_has t (s ∷ ts) (inr k) = tested (same_cell s t)
    (λ e. inl (same_cell_eq s t e))
    (λ e. inr (filter_has (λ u. not (same_cell s u)) t (each_once ts) (ap not e) (each_once_has t ts k)))

pub touched_is : (g : Public) (o : Object) (c : List ℕ) (t : Cell) → IsIn t (touched g o c) → (c ≡ t.levels) × ((has_fewer g o.fewer t ≡ true) × ((i : ℕ) × (i < length g.shape.points) × (in_slice g o i ≡ true) × (covers g t i ≡ true)))
unfolding cell
touched_is g o c t h =
    let a = IsIn-map (cell c) t (in_order (map (key_at g c) (filter (guards g o c) (places g)))) h in
    let b = IsIn-map (key_at g c) a.0 (filter (guards g o c) (places g)) (IsIn-in_order a.0 (map (key_at g c) (filter (guards g o c) (places g))) a.1) in
    let p = IsIn-filter (guards g o c) b.0 (places g) b.1 in
    let q = and_parts (in_slice g o b.0) (has_fewer g o.fewer (cell c (key_at g c b.0))) p.0 in
    (ap (λ s. s.levels) a.2, (subst (λ s. has_fewer g o.fewer s ≡ true) a.2 (subst (λ k. has_fewer g o.fewer (cell c k) ≡ true) b.2 q.1), (b.0, place_below g b.0 p.1, q.0, subst (λ s. covers g s b.0 ≡ true) a.2 (ap (λ k. same k a.0) b.2 ∙ same_refl a.0))))

pub touched_has : (g : Public) (o : Object) (t : Cell) (i : ℕ) → has_fewer g o.fewer t ≡ true → i < length g.shape.points → in_slice g o i ≡ true → covers g t i ≡ true → IsIn t (touched g o t.levels)
unfolding cell
touched_has g o t i few l s e =
    let at : key_at g t.levels i ≡ t.key = same_eq (key_at g t.levels i) t.key e in
    let few_at : has_fewer g o.fewer (cell t.levels (key_at g t.levels i)) ≡ true = subst (λ k. has_fewer g o.fewer (cell t.levels k) ≡ true) (sym at) few in
    map_has (cell t.levels) t.key (in_order (map (key_at g t.levels) (filter (guards g o t.levels) (places g))))
    (in_order_has t.key (map (key_at g t.levels) (filter (guards g o t.levels) (places g)))
    (subst (λ k. IsIn k (map (key_at g t.levels) (filter (guards g o t.levels) (places g)))) at
    (map_has (key_at g t.levels) i (filter (guards g o t.levels) (places g)) (filter_has (guards g o t.levels) i (places g) (and_from (in_slice g o i) (has_fewer g o.fewer (cell t.levels (key_at g t.levels i))) s few_at) (count_from_has i 0 (length g.shape.points) (omega arith) (omega arith))))))

pub protected_are : ProtectedAre
unfolding protected
protected_are g m t way = ((λ h. there (subst (λ k. IsIn t (protected_by k g m)) way h)), (λ h. subst (λ k. IsIn t (protected_by k g m)) (sym way) (back h)))
  where
    objects : List Object
    objects = filter (λ o. eqb o.measure m) g.policy.objects

    there : IsIn t (protected_by Lattice g m) → IsProtected g m t
    there h =
        let a = IsIn-each_once t (flat_map (under g) objects) h in
        let b = IsIn-flat_map (under g) t objects a in
        let o = IsIn-filter (λ o. eqb o.measure m) b.0 g.policy.objects b.1 in
        let c = IsIn-flat_map (touched g b.0) t (cuboids_below b.0.levels) b.2 in
        let d = touched_is g b.0 c.0 t c.2 in
        (b.0, o.1, eqb-true b.0.measure m o.0, subst (λ x. is_finer x b.0.levels ≡ true) d.0 (below_finer b.0.levels c.0 c.1), d.1.0, d.1.1.0, d.1.1.1, d.1.1.2, d.1.1.3)

    back : IsProtected g m t → IsIn t (protected_by Lattice g m)
    back h = each_once_has t (flat_map (under g) objects)
        (flat_map_has (under g) h.0 t objects (filter_has (λ o. eqb o.measure m) h.0 g.policy.objects (eq-eqb h.0.measure m h.2) h.1)
        (flat_map_has (touched g h.0) t.levels t (cuboids_below h.0.levels) (finer_below h.0.levels t.levels h.3) (touched_has g h.0 t h.5 h.4 h.6 h.7 h.8)))
