-- The old cube within the new one: its places, cuboids and cells.
use Rattle.std.specs.List.{list_all, list_any}
use Rattle.std.proofs.Common.{◌≡◌, ℕ, ◌<◌, ◌≤◌, ◌↔◌, true, List, [], length, get_or, sym, ap, ◌∙◌, subst, arith, ltb, ℤ}
use Rattle.std.proofs.lemmas.Bool.{and_parts, ltb-true}
use Rattle.std.proofs.lemmas.List.{get_or-map, length-map}
use Rattle.cube_model.specs.Cubes.{up, same, distinct, names_at, ancestors, key_at, together, covers, core, places, point, are_levels, IsPoint, Each, IsIn}
use Rattle.cube_model.specs.Dims.{NamedDimension, plain, plains, dimension_at, no_dimension}
use Rattle.cube_model.specs.Protection.{core_cell}
use Rattle.cube_model.proofs.Leasts.{in_places}
use Rattle.cube_model.proofs.Members.{same_refl}
use Rattle.cube_model.proofs.Parities.{all_at, core_alone}
use Rattle.cube_model.proofs.Sources.{Each-get_or}
use Rattle.cube_model.proofs.Walks.{same_truth}
use Rattle.cube_carry.specs.Names.{Named, known, world_of, IsNamed, dimension_in, same_dimension, carried_member, carried_levels, carried_point, carried_place}
use Rattle.cube_carry.specs.Continues.{Continues, has_levels, has_paths, has_point, same_texts}
use Rattle.cube_carry.proofs.Dimensions.{IsPlain, Grows, leaf, texts_eq, in_at, leaves_alike}
use Rattle.cube_carry.proofs.Orders.{nowhere, plain_at, length-plains, alike_at, point_long, point_leaf, levels_at, levels_from, number_in, number_below, number_back, stands_there, length-carried_levels, carried_level_at}

pub is_plain : (a : Named) (values : List (List ℤ)) (k : ℕ) → IsNamed a values → k < length a.dims.dimensions → IsPlain (dimension_at a.dims k)
is_plain a values k na h = record {
  named = subst (λ d. 0 < d.levels) (plain_at a.dims k h) (Each-get_or (λ d. 0 < d.levels) (plains a.dims) k nowhere na.world.named below);
  even = subst (λ d. Each (λ path. length path ≡ d.levels) d.paths) (plain_at a.dims k h) (Each-get_or (λ d. Each (λ path. length path ≡ d.levels) d.paths) (plains a.dims) k nowhere na.world.even below);
  once = subst (λ d. distinct (names_at d 0) ≡ names_at d 0) (plain_at a.dims k h) (Each-get_or (λ d. distinct (names_at d 0) ≡ names_at d 0) (plains a.dims) k nowhere na.world.leaves below);
}
  where
    below : k < length (plains a.dims)
    below = let e = length-plains a.dims in omega (arith, e, h)

pub is_point : (a : Named) (values : List (List ℤ)) (i : ℕ) → IsNamed a values → i < length a.shape.points → IsPoint (plains a.dims) (point (known a) i)
is_point a values i na h = Each-get_or (IsPoint (plains a.dims)) a.shape.points i [] na.world.points h

-- a leaf of a point, in range
pub point_leaf_at : (a : Named) (values : List (List ℤ)) (i k : ℕ) → IsNamed a values → i < length a.shape.points → k < length a.dims.dimensions → get_or (point (known a) i) k 0 < length (dimension_at a.dims k).paths
point_leaf_at a values i k na h b = subst (λ d. get_or (point (known a) i) k 0 < length d.paths) (plain_at a.dims k b) (point_leaf (plains a.dims) (point (known a) i) k (is_point a values i na h) (let e = length-plains a.dims in omega (arith, e, b)))

-- ---- the old cube within the new
module _ (a b : Named) (old new : List (List ℤ)) (na : IsNamed a old) (nb : IsNamed b new) (co : Continues a b) where
  abbrev σ : ℕ → ℕ
  σ k = number_in a.dims b.dims k

  pub old_number : (k : ℕ) → k < length b.dims.dimensions → σ k < length a.dims.dimensions
  old_number k h = number_below a.dims b.dims co.no_other k h

  pub new_number : (k : ℕ) → k < length a.dims.dimensions → number_in b.dims a.dims k < length b.dims.dimensions
  new_number k h = number_below b.dims a.dims co.dimensions k h

  pub there_and_back : (k : ℕ) → k < length a.dims.dimensions → σ (number_in b.dims a.dims k) ≡ k
  there_and_back k h = number_back b.dims a.dims co.dimensions na.dimensions k h

  pub back_and_there : (k : ℕ) → k < length b.dims.dimensions → number_in b.dims a.dims (σ k) ≡ k
  back_and_there k h = number_back a.dims b.dims co.no_other nb.dimensions k h

  pub grows : (k : ℕ) → k < length b.dims.dimensions → Grows (dimension_at a.dims (σ k)) (dimension_at b.dims k)
  grows k h = record {
    old = is_plain a old (σ k) na (old_number k h);
    new = is_plain b new k nb h;
    levels = texts_eq (dimension_at a.dims (σ k)).levels (dimension_at b.dims k).levels (subst (λ n. same_texts (dimension_at a.dims (σ k)).levels (dimension_at b.dims n).levels ≡ true) (back_and_there k h) (all_at (has_levels b.dims) (dimension_at a.dims (σ k)) a.dims.dimensions co.levels among));
    paths = subst (λ n. list_all (λ path. list_any (same_texts path) (dimension_at b.dims n).paths) (dimension_at a.dims (σ k)).paths ≡ true) (back_and_there k h) (all_at (has_paths b.dims) (dimension_at a.dims (σ k)) a.dims.dimensions co.paths among);
  }
    where
      among : IsIn (dimension_at a.dims (σ k)) a.dims.dimensions
      among = in_at no_dimension a.dims.dimensions (σ k) (old_number k h)

  abbrev n : ℕ
  n = length a.shape.points

  abbrev f : ℕ → ℕ
  f = carried_place a b

  pub place_there : (i : ℕ) → i < n → f i < length b.shape.points
  place_there i h = ltb-true (f i) (length b.shape.points) (and_parts (ltb (f i) (length b.shape.points)) _ (all_at (has_point a b) i (places (known a)) co.points (in_places (known a) i h))).0

  pub point_there : (i : ℕ) → i < n → point (known b) (f i) ≡ carried_point a.dims b.dims (point (known a) i)
  point_there i h = stands_there (carried_point a.dims b.dims (point (known a) i)) b.shape.points (place_there i h)

  -- its leaf in a dimension
  pub leaf_there : (i k : ℕ) → i < n → k < length b.dims.dimensions → get_or (point (known b) (f i)) k 0 ≡ leaf (dimension_at a.dims (σ k)) (dimension_at b.dims k) (get_or (point (known a) i) (σ k) 0)
  leaf_there i k h l = ap (λ x. get_or x k 0) (point_there i h) ∙ get_or-map (λ e. carried_member (same_dimension a.dims e) e 0 (get_or (point (known a) i) (dimension_in a.dims e) 0)) b.dims.dimensions k no_dimension 0 l

  -- a level in one dimension has two points together in both cubes or in none
  pub level_alike : (l i j k : ℕ) → i < n → j < n → k < length b.dims.dimensions
      → (up (plain (dimension_at a.dims (σ k))) l (get_or (point (known a) i) (σ k) 0) ≡ up (plain (dimension_at a.dims (σ k))) l (get_or (point (known a) j) (σ k) 0))
      ↔ (up (plain (dimension_at b.dims k)) l (get_or (point (known b) (f i)) k 0) ≡ up (plain (dimension_at b.dims k)) l (get_or (point (known b) (f j)) k 0))
  level_alike l i j k hi hj hk = (
    (λ p. ap (up (plain e) l) (leaf_there i k hi hk) ∙ both.0 p ∙ sym (ap (up (plain e) l) (leaf_there j k hj hk))),
    (λ p. both.1 (sym (ap (up (plain e) l) (leaf_there i k hi hk)) ∙ p ∙ ap (up (plain e) l) (leaf_there j k hj hk))),
  )
    where
      d : NamedDimension
      d = dimension_at a.dims (σ k)

      e : NamedDimension
      e = dimension_at b.dims k

      both : (up (plain d) l (get_or (point (known a) i) (σ k) 0) ≡ up (plain d) l (get_or (point (known a) j) (σ k) 0)) ↔ (up (plain e) l (leaf d e (get_or (point (known a) i) (σ k) 0)) ≡ up (plain e) l (leaf d e (get_or (point (known a) j) (σ k) 0)))
      both = leaves_alike d e l (get_or (point (known a) i) (σ k) 0) (get_or (point (known a) j) (σ k) 0) (grows k hk) (point_leaf_at a old i (σ k) na hi (old_number k hk)) (point_leaf_at a old j (σ k) na hj (old_number k hk))

  -- a cuboid has two old places together in both cubes or in none
  pub joined : (c : List ℕ) (i j : ℕ) → length c ≡ length a.dims.dimensions → i < n → j < n → together (known b) (carried_levels a.dims b.dims c) (f i) (f j) ≡ together (known a) c i j
  unfolding key_at
  joined c i j long hi hj = same_truth (same (ancestors (plains b.dims) c' (point (known b) (f i))) (ancestors (plains b.dims) c' (point (known b) (f j)))) (same (ancestors (plains a.dims) c (point (known a) i)) (ancestors (plains a.dims) c (point (known a) j)))
      (λ t. in_old.1 (λ k h. to_old k h t))
      (λ t. in_new.1 (λ k h. to_new k h t))
    where
      c' : List ℕ
      c' = carried_levels a.dims b.dims c

      in_old : (same (ancestors (plains a.dims) c (point (known a) i)) (ancestors (plains a.dims) c (point (known a) j)) ≡ true) ↔ ((k : ℕ) → k < length (plains a.dims) → up (get_or (plains a.dims) k nowhere) (get_or c k 0) (get_or (point (known a) i) k 0) ≡ up (get_or (plains a.dims) k nowhere) (get_or c k 0) (get_or (point (known a) j) k 0))
      in_old = alike_at (plains a.dims) c (point (known a) i) (point (known a) j) (long ∙ sym (length-plains a.dims)) (point_long (plains a.dims) (point (known a) i) (is_point a old i na hi)) (point_long (plains a.dims) (point (known a) j) (is_point a old j na hj))

      in_new : (same (ancestors (plains b.dims) c' (point (known b) (f i))) (ancestors (plains b.dims) c' (point (known b) (f j))) ≡ true) ↔ ((k : ℕ) → k < length (plains b.dims) → up (get_or (plains b.dims) k nowhere) (get_or c' k 0) (get_or (point (known b) (f i)) k 0) ≡ up (get_or (plains b.dims) k nowhere) (get_or c' k 0) (get_or (point (known b) (f j)) k 0))
      in_new = alike_at (plains b.dims) c' (point (known b) (f i)) (point (known b) (f j)) (length-carried_levels a.dims b.dims c ∙ sym (length-plains b.dims)) (point_long (plains b.dims) (point (known b) (f i)) (is_point b new (f i) nb (place_there i hi))) (point_long (plains b.dims) (point (known b) (f j)) (is_point b new (f j) nb (place_there j hj)))

      to_old : (k : ℕ) → k < length (plains a.dims) → same (ancestors (plains b.dims) c' (point (known b) (f i))) (ancestors (plains b.dims) c' (point (known b) (f j))) ≡ true → up (get_or (plains a.dims) k nowhere) (get_or c k 0) (get_or (point (known a) i) k 0) ≡ up (get_or (plains a.dims) k nowhere) (get_or c k 0) (get_or (point (known a) j) k 0)
      to_old k h t = subst (λ d. up d (get_or c k 0) (get_or (point (known a) i) k 0) ≡ up d (get_or c k 0) (get_or (point (known a) j) k 0)) (sym (plain_at a.dims k b0))
          (subst (λ z. up (plain (dimension_at a.dims z)) (get_or c z 0) (get_or (point (known a) i) z 0) ≡ up (plain (dimension_at a.dims z)) (get_or c z 0) (get_or (point (known a) j) z 0)) (there_and_back k b0)
          ((level_alike (get_or c (σ k') 0) i j k' hi hj b1).1
          (subst (λ d. up d (get_or c (σ k') 0) (get_or (point (known b) (f i)) k' 0) ≡ up d (get_or c (σ k') 0) (get_or (point (known b) (f j)) k' 0)) (plain_at b.dims k' b1)
          (subst (λ l. up (get_or (plains b.dims) k' nowhere) l (get_or (point (known b) (f i)) k' 0) ≡ up (get_or (plains b.dims) k' nowhere) l (get_or (point (known b) (f j)) k' 0)) (carried_level_at a.dims b.dims c k' b1) (in_new.0 t k' (let e = length-plains b.dims in omega (arith, e, b1)))))))
        where
          k' : ℕ
          k' = number_in b.dims a.dims k

          b0 : k < length a.dims.dimensions
          b0 = let e = length-plains a.dims in omega (arith, e, h)

          b1 : k' < length b.dims.dimensions
          b1 = new_number k b0

      to_new : (k : ℕ) → k < length (plains b.dims) → same (ancestors (plains a.dims) c (point (known a) i)) (ancestors (plains a.dims) c (point (known a) j)) ≡ true → up (get_or (plains b.dims) k nowhere) (get_or c' k 0) (get_or (point (known b) (f i)) k 0) ≡ up (get_or (plains b.dims) k nowhere) (get_or c' k 0) (get_or (point (known b) (f j)) k 0)
      to_new k h t = subst (λ d. up d (get_or c' k 0) (get_or (point (known b) (f i)) k 0) ≡ up d (get_or c' k 0) (get_or (point (known b) (f j)) k 0)) (sym (plain_at b.dims k b0))
          (subst (λ l. up (plain (dimension_at b.dims k)) l (get_or (point (known b) (f i)) k 0) ≡ up (plain (dimension_at b.dims k)) l (get_or (point (known b) (f j)) k 0)) (sym (carried_level_at a.dims b.dims c k b0))
          ((level_alike (get_or c (σ k) 0) i j k hi hj b0).0
          (subst (λ d. up d (get_or c (σ k) 0) (get_or (point (known a) i) (σ k) 0) ≡ up d (get_or c (σ k) 0) (get_or (point (known a) j) (σ k) 0)) (plain_at a.dims (σ k) (old_number k b0)) (in_old.0 t (σ k) (let e = length-plains a.dims in let z = old_number k b0 in omega (arith, e, z))))))
        where
          b0 : k < length b.dims.dimensions
          b0 = let e = length-plains b.dims in omega (arith, e, h)

  pub core_long : length (core (known a)) ≡ length a.dims.dimensions
  core_long = length-map (plains a.dims) (λ d. 0) ∙ length-plains a.dims

  -- two old places are two places
  pub places_apart : (i j : ℕ) → i < n → j < n → f i ≡ f j → i ≡ j
  places_apart i j hi hj e = sym (core_alone (world_of a old) i j na.world hi hj (turned (joined (core (known a)) j i core_long hj hi)))
    where
      turned : together (known b) (carried_levels a.dims b.dims (core (known a))) (f j) (f i) ≡ together (known a) (core (known a)) j i → covers (known a) (core_cell (known a) i) j ≡ true
      turned t = sym t ∙ ap (λ p. same (key_at (known b) (carried_levels a.dims b.dims (core (known a))) (f j)) (key_at (known b) (carried_levels a.dims b.dims (core (known a))) p)) e ∙ same_refl (key_at (known b) (carried_levels a.dims b.dims (core (known a))) (f j))

  -- levels in range stay so
  pub carried_in_range : (c : List ℕ) → are_levels (plains a.dims) c ≡ true → are_levels (plains b.dims) (carried_levels a.dims b.dims c) ≡ true
  carried_in_range c e = levels_from (plains b.dims) (carried_levels a.dims b.dims c) (length-carried_levels a.dims b.dims c ∙ sym (length-plains b.dims)) (λ k h. each k (let z = length-plains b.dims in omega (arith, z, h)))
    where
      each : (k : ℕ) → k < length b.dims.dimensions → get_or (carried_levels a.dims b.dims c) k 0 ≤ (get_or (plains b.dims) k nowhere).levels
      each k h = subst (λ d. get_or (carried_levels a.dims b.dims c) k 0 ≤ d.levels) (sym (plain_at b.dims k h))
          (subst (λ x. x ≤ length (dimension_at b.dims k).levels) (sym (carried_level_at a.dims b.dims c k h))
          (subst (λ ls. get_or c (σ k) 0 ≤ length ls) (grows k h).levels
          (subst (λ d. get_or c (σ k) 0 ≤ d.levels) (plain_at a.dims (σ k) (old_number k h))
          ((levels_at (plains a.dims) c e).1 (σ k) (let z = length-plains a.dims in let y = old_number k h in omega (arith, z, y))))))
