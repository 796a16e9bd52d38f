-- The cells of the old cube in the new one.
use Rattle.std.specs.List.{list_all}
use Rattle.std.proofs.Common.{◌≡◌, ℕ, ◌<◌, ◌≤◌, true, List, length, map, get_or, ℤ, sym, ap, ◌∙◌, subst, arith}
use Rattle.std.proofs.lemmas.List.{get_or-map, length-map}
use Rattle.cube_model.specs.declared.cell.Cell.{Cell}
use Rattle.cube_model.specs.Cubes.{ancestors, key_at, count_from, is_finer, point, up, IsIn}
use Rattle.cube_model.specs.Dims.{NamedDimension, plain, plains, dimension_at, no_dimension}
use Rattle.cube_model.specs.Protection.{protected, same_cell}
use Rattle.cube_model.proofs.Members.{count_from_has}
use Rattle.cube_model.proofs.Objects.{same_cell_eq}
use Rattle.cube_model.proofs.Parities.{all_at}
use Rattle.cube_model.proofs.Walks.{any_from}
use Rattle.cube_carry.specs.Names.{Named, known, IsNamed, dimension_in, same_dimension, measure_in, carried_member, carried_levels, carried_cell, carried_place}
use Rattle.cube_carry.specs.Continues.{Continues, protects}
use Rattle.cube_carry.proofs.Dimensions.{member_above}
use Rattle.cube_carry.proofs.Embeds.{is_point, point_leaf_at, old_number, grows, place_there, leaf_there}
use Rattle.cube_carry.proofs.Orders.{nowhere, plain_at, length-plains, key_from, ancestor_at, point_long, number_in, finer_at, finer_from, length-carried_levels, carried_level_at}

abbrev pub cell : List ℕ → List ℕ → Cell
cell c key = record { levels = c; key = key }

module _ (a b : Named) (old new : List (List ℤ)) (na : IsNamed a old) (nb : IsNamed b new) (co : Continues a b) where
  abbrev f : ℕ → ℕ
  f = carried_place a b

  -- the cell of an old place is carried to the cell of its place
  pub cell_there : (v : List ℕ) (i : ℕ) → length v ≡ length a.dims.dimensions → i < length a.shape.points → carried_cell a.dims b.dims (cell v (key_at (known a) v i)) ≡ cell (carried_levels a.dims b.dims v) (key_at (known b) (carried_levels a.dims b.dims v) (f i))
  unfolding key_at
  cell_there v i long h = ap (cell (carried_levels a.dims b.dims v)) (sym (key_from (plains b.dims) (carried_levels a.dims b.dims v) (point (known b) (f i)) key' (length-carried_levels a.dims b.dims v ∙ sym (length-plains b.dims)) (point_long (plains b.dims) (point (known b) (f i)) (is_point b new (f i) nb (place_there a b old new na nb co i h))) (length-map b.dims.dimensions member ∙ sym (length-plains b.dims)) (λ k l. at k (let e = length-plains b.dims in omega (arith, e, l)))))
    where
      key : List ℕ
      key = ancestors (plains a.dims) v (point (known a) i)

      member : NamedDimension → ℕ
      member e = carried_member (same_dimension a.dims e) e (get_or v (dimension_in a.dims e) 0) (get_or key (dimension_in a.dims e) 0)

      key' : List ℕ
      key' = map member b.dims.dimensions

      at : (k : ℕ) → k < length b.dims.dimensions → up (get_or (plains b.dims) k nowhere) (get_or (carried_levels a.dims b.dims v) k 0) (get_or (point (known b) (f i)) k 0) ≡ get_or key' k 0
      at k l = ap (λ d. up d (get_or (carried_levels a.dims b.dims v) k 0) (get_or (point (known b) (f i)) k 0)) (plain_at b.dims k l)
          ∙ ap (λ x. up (plain (dimension_at b.dims k)) x (get_or (point (known b) (f i)) k 0)) (carried_level_at a.dims b.dims v k l)
          ∙ ap (up (plain (dimension_at b.dims k)) (get_or v s 0)) (leaf_there a b old new na nb co i k h l)
          ∙ sym (member_above (dimension_at a.dims s) (dimension_at b.dims k) (get_or v s 0) (get_or (point (known a) i) s 0) (grows a b old new na nb co k l) (point_leaf_at a old i s na h sb))
          ∙ ap (carried_member (dimension_at a.dims s) (dimension_at b.dims k) (get_or v s 0)) (sym (ancestor_at (plains a.dims) v (point (known a) i) s (long ∙ sym (length-plains a.dims)) (point_long (plains a.dims) (point (known a) i) (is_point a old i na h)) (let e = length-plains a.dims in omega (arith, e, sb)) ∙ ap (λ d. up d (get_or v s 0) (get_or (point (known a) i) s 0)) (plain_at a.dims s sb)))
          ∙ sym (get_or-map member b.dims.dimensions k no_dimension 0 l)
        where
          s : ℕ
          s = number_in a.dims b.dims k

          sb : s < length a.dims.dimensions
          sb = old_number a b old new na nb co k l

  -- a cell that the old cube protects is protected in the new one
  pub protected_there : (k : ℕ) (t : Cell) → k < length a.dims.measures → IsIn t (protected (known a) k) → IsIn (carried_cell a.dims b.dims t) (protected (known b) (measure_in a.dims b.dims k))
  protected_there k t h is_in =
      let r = any_from (same_cell (carried_cell a.dims b.dims t)) (protected (known b) (measure_in a.dims b.dims k))
      (all_at (protects a b k) t (protected (known a) k) (all_at (λ m. list_all (protects a b m) (protected (known a) m)) k (count_from 0 (length a.dims.measures)) co.cells (count_from_has k 0 (length a.dims.measures) (omega arith) (omega (arith, h)))) is_in) in
      subst (λ s. IsIn s (protected (known b) (measure_in a.dims b.dims k))) (sym (same_cell_eq (carried_cell a.dims b.dims t) r.0 r.2)) r.1

  -- finer levels stay so
  pub finer_there : (x y : List ℕ) → length x ≡ length a.dims.dimensions → is_finer x y ≡ true → is_finer (carried_levels a.dims b.dims x) (carried_levels a.dims b.dims y) ≡ true
  finer_there x y long e = finer_from (carried_levels a.dims b.dims x) (carried_levels a.dims b.dims y) (length-carried_levels a.dims b.dims x ∙ sym (length-carried_levels a.dims b.dims y)) (λ k h. each k (let z = length-carried_levels a.dims b.dims x in omega (arith, z, h)))
    where
      each : (k : ℕ) → k < length b.dims.dimensions → get_or (carried_levels a.dims b.dims x) k 0 ≤ get_or (carried_levels a.dims b.dims y) k 0
      each k h =
          let p = carried_level_at a.dims b.dims x k h in
          let q = carried_level_at a.dims b.dims y k h in
          let s = old_number a b old new na nb co k h in
          let r = finer_at x y e (number_in a.dims b.dims k) (omega (arith, long, s)) in
          omega (arith, p, q, r)
