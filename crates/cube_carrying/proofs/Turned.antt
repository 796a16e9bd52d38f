-- A point whose leaves are put into the order of other dimensions.
use Rattle.std.proofs.Common.{◌≡◌, ℕ, ◌<◌, true, List, [], length, get_or, ap, ap₂, ◌∙◌, arith}
use Rattle.std.specs.List.{list_all}
use Rattle.std.proofs.lemmas.List.{length-map, get_or-map, get_or_default}
use Rattle.cube_model.specs.Cubes.{Dimension, IsPoint, count_from}
use Rattle.cube_model.specs.Dims.{Dims, NamedDimension, plains, dimension_at, no_dimension}
use Rattle.cube_carry.specs.Continues.{has_dimension}
use Rattle.cube_carry.specs.Names.{dimension_in, same_dimension, carried_member}
use Rattle.cube_carry.proofs.Orders.{number_below, point_long, point_leaf, plain_at, length-plains}
use Rattle.cube_model.proofs.Sums.{length-count_from}
use Rattle.cube_carrying.proofs.Tables.{counted_at}
use Rattle.cube_carrying.specs.Leaves.{leaves_in, carried_leaves}
use Rattle.cube_carrying.specs.Places.{numbers_in, leaf_in}

-- what a leaf is read from
pub record Reads (s z : Dims) (ns : List ℕ) (ls : List (List ℕ)) (x : List ℕ) (k : ℕ) : Type 0 where
  pub all : list_all (has_dimension s) z.dimensions ≡ true
  pub numbers : ns ≡ numbers_in s z
  pub leaves : ls ≡ carried_leaves s z
  pub point : IsPoint (plains s) x
  pub number : k < length z.dimensions

module _ (s z : Dims) (ns : List ℕ) (ls : List (List ℕ)) (x : List ℕ) (k : ℕ) (r : Reads s z ns ls x k) where
  number_is : get_or ns k 0 ≡ dimension_in s (dimension_at z k)
  number_is = ap (λ (l : List ℕ). get_or l k 0) r.numbers ∙ get_or-map (dimension_in s) z.dimensions k no_dimension 0 r.number

  leaves_are : get_or ls k [] ≡ leaves_in (same_dimension s (dimension_at z k)) (dimension_at z k)
  leaves_are = ap (λ (l : List (List ℕ)). get_or l k []) r.leaves ∙ get_or-map (λ (e : NamedDimension). leaves_in (same_dimension s e) e) z.dimensions k no_dimension [] r.number

  leaves_long : k < length ls
  leaves_long = let a = ap length r.leaves in let b = length-map z.dimensions (λ (e : NamedDimension). leaves_in (same_dimension s e) e) in omega (arith, a, b, r.number)

  pub point_within : get_or ns k 0 < length x
  point_within = let a = number_below s z r.all k r.number in let b = point_long (plains s) x r.point in let c = length-plains s in let e = number_is in omega (arith, a, b, c, e)

  own_leaf : get_or x (get_or ns k 0) 0 ≡ get_or x (dimension_in s (dimension_at z k)) 0
  own_leaf = ap (λ (n : ℕ). get_or x n 0) number_is

  own_below : get_or x (dimension_in s (dimension_at z k)) 0 < length (same_dimension s (dimension_at z k)).paths
  own_below =
      let a = number_below s z r.all k r.number in
      let c = length-plains s in
      let h = point_leaf (plains s) x (dimension_in s (dimension_at z k)) r.point (omega (arith, a, c)) in
      let e = ap (λ (d : Dimension). length d.paths) (plain_at s (dimension_in s (dimension_at z k)) a) in
      omega (arith, h, e)

  -- at the list of leaves that is read
  pub leaf_within : (l : List ℕ) → l ≡ get_or ls k l → get_or x (get_or ns k 0) 0 < length l
  leaf_within l is =
      let here : l ≡ leaves_in (same_dimension s (dimension_at z k)) (dimension_at z k) = is ∙ get_or_default ls k l [] leaves_long ∙ leaves_are in
      let a = ap length here in
      let b = length-map (count_from 0 (length (same_dimension s (dimension_at z k)).paths)) (carried_member (same_dimension s (dimension_at z k)) (dimension_at z k) 0) in
      let c = length-count_from 0 (length (same_dimension s (dimension_at z k)).paths) in
      omega (arith, a, b, c, own_leaf, own_below)

  pub leaf_is : (l : List ℕ) → l ≡ get_or ls k l → get_or l (get_or x (get_or ns k 0) 0) 0 ≡ leaf_in s x (dimension_at z k)
  leaf_is l is =
      let here : l ≡ leaves_in (same_dimension s (dimension_at z k)) (dimension_at z k) = is ∙ get_or_default ls k l [] leaves_long ∙ leaves_are in
      ap₂ (λ (m : List ℕ) (n : ℕ). get_or m n 0) here own_leaf
      ∙ counted_at (carried_member (same_dimension s (dimension_at z k)) (dimension_at z k) 0) 0 (length (same_dimension s (dimension_at z k)).paths) (get_or x (dimension_in s (dimension_at z k)) 0) own_below
