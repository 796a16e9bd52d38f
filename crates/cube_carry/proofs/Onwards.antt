-- A cube that continues one which continues a third, continues that.
use Rattle.std.specs.List.{list_all, list_any}
use Rattle.std.specs.Ordering.{int_eq}
use Rattle.std.proofs.Common.{◌≡◌, ℕ, ◌<◌, ◌==◌, Bool, true, ◌&&◌, List, [], ◌∷◌, length, map, get_or, ℤ, pos, refl, sym, ap, ap₂, ◌∙◌, subst, arith, ltb, eqb-true, eq-eqb}
use Rattle.std.proofs.lemmas.Bool.{and_parts, and_from, lt-ltb}
use Rattle.std.proofs.lemmas.Bool.Decides.{Decides-int_eq}
use Rattle.std.proofs.lemmas.List.{get_or-map, length-map}
use Rattle.cube_model.specs.declared.cell.Cell.{Cell}
use Rattle.cube_model.specs.declared.policy.Method.{Method}
use Rattle.cube_model.specs.declared.policy.Method.TheVariants.{Plain, Lattice, Parity}
use Rattle.cube_model.specs.Cubes.{same, place_of, count_from, places, point, key_at, up, are_levels, IsIn, names_at}
use Rattle.cube_model.specs.Dims.{Dims, NamedDimension, plain, plains, members, dimension_names, measure_names, dimension_at, measure_at, no_dimension}
use Rattle.cube_model.specs.Protection.{method, protected, protected_by, core_cell, guarded, same_cell}
use Rattle.cube_model.proofs.DimsFacts.{Has, has_at, get_or-place_of, list_any-distinct, length-names_at}
use Rattle.cube_model.proofs.Histories.{Each-at}
use Rattle.cube_model.proofs.Leasts.{in_places}
use Rattle.cube_model.proofs.Members.{IsIn-count_from, IsIn-map, count_from_has, map_has, same_eq, same_refl}
use Rattle.cube_model.proofs.Objects.{protected_are}
use Rattle.cube_model.proofs.Parities.{all_at, all_from, guarded_below}
use Rattle.cube_model.proofs.Sources.{place_below}
use Rattle.cube_model.proofs.Twinned.{map_alike}
use Rattle.cube_model.proofs.Walks.{any_from, any_has}
use Rattle.cube_carry.specs.TwoLives.{old_changes}
use Rattle.cube_carry.proofs.Silence.{agreed, old_change_at}
use Rattle.cube_carry.specs.Names.{Named, known, IsNamed, dimension_in, same_dimension, measure_in, carried_member, carried_levels, carried_point, carried_cell, carried_place}
use Rattle.cube_carry.specs.Continues.{same_texts, same_method, has_dimension, has_levels, has_path, has_paths, has_measure, has_point, protects, Continues, value_at, has_values, KeepsValues, ContinuesOnward}
use Rattle.cube_carry.proofs.Cells.{protected_there}
use Rattle.cube_carry.proofs.Dimensions.{Grows, leaf, name_of, name_at_is, up_is, leaf_path, leaf_name, member_above, texts_eq, stands, in_at, IsPlain}
use Rattle.cube_carry.proofs.Embeds.{core_long, is_point, point_leaf_at, old_number, grows, place_there, leaf_there}
use Rattle.cube_carry.proofs.Measures.{is_found, measure_name}
use Rattle.cube_carry.proofs.Orders.{plain_at, length-plains, ancestor_at, point_long, same_lists, number_below, number_name, length-carried_levels, carried_level_at, levels_at, finer_in_range}

-- ---- names
same_texts_refl : (xs : List (List ℕ)) → same_texts xs xs ≡ true
same_texts_refl [] = refl
same_texts_refl (x ∷ xs) = and_from (same x x) (same_texts xs xs) (same_refl x) (same_texts_refl xs)

same_method_refl : (x : Method) → same_method x x ≡ true
same_method_refl Plain = refl
same_method_refl Lattice = refl
same_method_refl Parity = refl

same_cell_refl : (s t : Cell) → s ≡ t → same_cell s t ≡ true
same_cell_refl s t e = subst (λ x. same_cell s x ≡ true) e (and_from (same s.levels s.levels) (same s.key s.key) (same_refl s.levels) (same_refl s.key))

-- what holds of each dimension by number holds of each
by_number : (s : Dims) (p : NamedDimension → Bool) → ((k : ℕ) → k < length s.dimensions → p (dimension_at s k) ≡ true) → list_all p s.dimensions ≡ true
by_number s p f = all_from p s.dimensions (λ d h. let r = stands d no_dimension s.dimensions h in subst (λ x. p x ≡ true) r.2 (f r.0 r.1))

-- a dimension that is at a number
is_at : (s : Dims) (d : NamedDimension) (k : ℕ) → k < length s.dimensions → (dimension_at s k).name ≡ d.name → has_dimension s d ≡ true
is_at s d k h e = any_has (same d.name) (dimension_at s k).name (dimension_names s) (map_has (λ x. x.name) (dimension_at s k) s.dimensions (in_at no_dimension s.dimensions k h)) (ap (same d.name) e ∙ same_refl d.name)

-- the name of a member above a leaf
above_name : (d : NamedDimension) (l x : ℕ) → IsPlain d → x < length d.paths → get_or (members d l) (up (plain d) l x) [] ≡ name_of d l x
above_name d l x ok h = ap (λ z. get_or (members d l) z []) (up_is d l x ok h) ∙ get_or-place_of (name_of d l x) (members d l) among
  where
    among : Has (name_of d l x) (members d l)
    among = list_any-distinct (name_of d l x) (names_at (plain d) l) ∙ subst (λ n. Has n (names_at (plain d) l)) (name_at_is d l x h) (has_at (names_at (plain d) l) x (let k = length-names_at d l in omega (arith, k, h)))

-- a member found by its name in one cube and then in the next is found so at once
member_twice : (d e g : NamedDimension) (l x : ℕ) → Grows d e → x < length d.paths → carried_member d g l (up (plain d) l x) ≡ carried_member e g l (carried_member d e l (up (plain d) l x))
member_twice d e g l x ok h = ap (λ n. place_of n (members g l))
    (above_name d l x ok.old h ∙ sym (ap (λ z. get_or (members e l) z []) (member_above d e l x ok h) ∙ above_name e l (leaf d e x) ok.new (leaf_path d e x ok h).0 ∙ leaf_name d e l x ok h))

leaf_twice : (d e g : NamedDimension) (x : ℕ) → Grows d e → x < length d.paths → leaf d g x ≡ leaf e g (leaf d e x)
leaf_twice d e g x ok h = ap (λ n. place_of n (members g 0)) (own d x ok.old h ∙ sym (own e (leaf d e x) ok.new (leaf_path d e x ok h).0 ∙ leaf_name d e 0 x ok h))
  where
    own : (d : NamedDimension) (x : ℕ) → IsPlain d → x < length d.paths → get_or (members d 0) x [] ≡ name_of d 0 x
    own d x ok h = ap (λ ns. get_or ns x []) ok.once ∙ name_at_is d 0 x h

module _ (a b c : Named) (x y z : List (List ℤ)) (na : IsNamed a x) (nb : IsNamed b y) (nc : IsNamed c z) (ab : Continues a b) (bc : Continues b c) where
  -- ---- dimensions
  -- by the name of a dimension of the first, what the third has is what the second has by it
  onward : (k : ℕ) → k < length a.dims.dimensions → dimension_in c.dims (dimension_at a.dims k) ≡ dimension_in c.dims (same_dimension b.dims (dimension_at a.dims k))
  onward k h = ap (λ n. place_of n (dimension_names c.dims)) (sym (number_name b.dims a.dims ab.dimensions k h))

  -- and by one of the third, what the first has
  backward : (k : ℕ) → k < length c.dims.dimensions → dimension_in a.dims (dimension_at c.dims k) ≡ dimension_in a.dims (same_dimension b.dims (dimension_at c.dims k))
  backward k h = ap (λ n. place_of n (dimension_names a.dims)) (sym (number_name b.dims c.dims bc.no_other k h))

  middle : (k : ℕ) → k < length c.dims.dimensions → dimension_in b.dims (dimension_at c.dims k) < length b.dims.dimensions
  middle k h = number_below b.dims c.dims bc.no_other k h

  middle_of : (k : ℕ) → k < length a.dims.dimensions → dimension_in b.dims (dimension_at a.dims k) < length b.dims.dimensions
  middle_of k h = number_below b.dims a.dims ab.dimensions k h

  among_old : (k : ℕ) → k < length a.dims.dimensions → IsIn (dimension_at a.dims k) a.dims.dimensions
  among_old k h = in_at no_dimension a.dims.dimensions k h

  among_middle : (k : ℕ) → k < length a.dims.dimensions → IsIn (same_dimension b.dims (dimension_at a.dims k)) b.dims.dimensions
  among_middle k h = in_at no_dimension b.dims.dimensions (dimension_in b.dims (dimension_at a.dims k)) (middle_of k h)

  dimensions_onward : list_all (has_dimension c.dims) a.dims.dimensions ≡ true
  dimensions_onward = by_number a.dims (has_dimension c.dims) (λ k h. is_at c.dims (dimension_at a.dims k) (dimension_in c.dims (same_dimension b.dims (dimension_at a.dims k))) (number_below c.dims b.dims bc.dimensions (dimension_in b.dims (dimension_at a.dims k)) (middle_of k h)) (number_name c.dims b.dims bc.dimensions (dimension_in b.dims (dimension_at a.dims k)) (middle_of k h) ∙ number_name b.dims a.dims ab.dimensions k h))

  no_other_onward : list_all (has_dimension a.dims) c.dims.dimensions ≡ true
  no_other_onward = by_number c.dims (has_dimension a.dims) (λ k h. is_at a.dims (dimension_at c.dims k) (dimension_in a.dims (same_dimension b.dims (dimension_at c.dims k))) (number_below a.dims b.dims ab.no_other (dimension_in b.dims (dimension_at c.dims k)) (middle k h)) (number_name a.dims b.dims ab.no_other (dimension_in b.dims (dimension_at c.dims k)) (middle k h) ∙ number_name b.dims c.dims bc.no_other k h))

  levels_onward : list_all (has_levels c.dims) a.dims.dimensions ≡ true
  levels_onward = by_number a.dims (has_levels c.dims) (λ k h. subst (λ ls. same_texts (dimension_at a.dims k).levels ls ≡ true)
      (texts_eq (dimension_at a.dims k).levels (same_dimension b.dims (dimension_at a.dims k)).levels (all_at (has_levels b.dims) (dimension_at a.dims k) a.dims.dimensions ab.levels (among_old k h))
      ∙ texts_eq (same_dimension b.dims (dimension_at a.dims k)).levels (same_dimension c.dims (same_dimension b.dims (dimension_at a.dims k))).levels (all_at (has_levels c.dims) (same_dimension b.dims (dimension_at a.dims k)) b.dims.dimensions bc.levels (among_middle k h))
      ∙ sym (ap (λ n. (dimension_at c.dims n).levels) (onward k h)))
      (same_texts_refl (dimension_at a.dims k).levels))

  paths_onward : list_all (has_paths c.dims) a.dims.dimensions ≡ true
  paths_onward = by_number a.dims (has_paths c.dims) (λ k h. all_from (has_path c.dims (dimension_at a.dims k)) (dimension_at a.dims k).paths (λ p hp. one k h p hp))
    where
      one : (k : ℕ) → k < length a.dims.dimensions → (p : List (List ℕ)) → IsIn p (dimension_at a.dims k).paths → has_path c.dims (dimension_at a.dims k) p ≡ true
      one k h p hp =
          let d : NamedDimension = dimension_at a.dims k in
          let r = any_from (same_texts p) (same_dimension b.dims d).paths (all_at (has_path b.dims d) p d.paths (all_at (has_paths b.dims) d a.dims.dimensions ab.paths (among_old k h)) hp) in
          ap (λ n. list_any (same_texts p) (dimension_at c.dims n).paths) (onward k h)
          ∙ subst (λ q. has_path c.dims (same_dimension b.dims d) q ≡ true) (sym (texts_eq p r.0 r.2)) (all_at (has_path c.dims (same_dimension b.dims d)) r.0 (same_dimension b.dims d).paths (all_at (has_paths c.dims) (same_dimension b.dims d) b.dims.dimensions bc.paths (among_middle k h)) r.1)

  -- ---- measures
  pub measure_onward : (m : ℕ) → m < length a.dims.measures → measure_in a.dims c.dims m ≡ measure_in b.dims c.dims (measure_in a.dims b.dims m)
  measure_onward m h = ap (λ n. place_of n (measure_names c.dims)) (sym (measure_name a.dims b.dims m (is_found a b m ab h).there))

  decimals_at : (a b : Named) (m : ℕ) → Continues a b → m < length a.dims.measures → (measure_at a.dims m).decimals ≡ (measure_at b.dims (measure_in a.dims b.dims m)).decimals
  decimals_at a b m co h = eqb-true (measure_at a.dims m).decimals (measure_at b.dims (measure_in a.dims b.dims m)).decimals
      (and_parts (ltb (measure_in a.dims b.dims m) (length b.dims.measures)) _ (and_parts (ltb (measure_in a.dims b.dims m) (length b.dims.measures) && (measure_at a.dims m).decimals == (measure_at b.dims (measure_in a.dims b.dims m)).decimals) (same_method (method (known a) m) (method (known b) (measure_in a.dims b.dims m)))
      (all_at (has_measure a b) m (count_from 0 (length a.dims.measures)) co.measures (count_from_has m 0 (length a.dims.measures) (omega arith) (omega (arith, h))))).0).1

  measures_onward : list_all (has_measure a c) (count_from 0 (length a.dims.measures)) ≡ true
  measures_onward = all_from (has_measure a c) (count_from 0 (length a.dims.measures)) (λ m k. one m (let r = (IsIn-count_from m 0 (length a.dims.measures) k).1 in omega (arith, r)))
    where
      one : (m : ℕ) → m < length a.dims.measures → has_measure a c m ≡ true
      one m h =
          let f = is_found a b m ab h in
          let g = is_found b c (measure_in a.dims b.dims m) bc f.there in
          subst (λ n. (ltb n (length c.dims.measures) && (measure_at a.dims m).decimals == (measure_at c.dims n).decimals && same_method (method (known a) m) (method (known c) n)) ≡ true) (sym (measure_onward m h))
          (and_from (ltb (measure_in b.dims c.dims (measure_in a.dims b.dims m)) (length c.dims.measures) && (measure_at a.dims m).decimals == (measure_at c.dims (measure_in b.dims c.dims (measure_in a.dims b.dims m))).decimals) (same_method (method (known a) m) (method (known c) (measure_in b.dims c.dims (measure_in a.dims b.dims m))))
          (and_from (ltb (measure_in b.dims c.dims (measure_in a.dims b.dims m)) (length c.dims.measures)) ((measure_at a.dims m).decimals == (measure_at c.dims (measure_in b.dims c.dims (measure_in a.dims b.dims m))).decimals)
          (lt-ltb (measure_in b.dims c.dims (measure_in a.dims b.dims m)) (length c.dims.measures) g.there)
          (eq-eqb (measure_at a.dims m).decimals (measure_at c.dims (measure_in b.dims c.dims (measure_in a.dims b.dims m))).decimals (decimals_at a b m ab h ∙ decimals_at b c (measure_in a.dims b.dims m) bc f.there)))
          (ap (same_method (method (known a) m)) (sym (f.way ∙ g.way)) ∙ same_method_refl (method (known a) m)))

  -- ---- points
  pub point_onward : (i : ℕ) → i < length a.shape.points → carried_point a.dims c.dims (point (known a) i) ≡ carried_point b.dims c.dims (point (known b) (carried_place a b i))
  point_onward i h = same_lists (carried_point a.dims c.dims p) (carried_point b.dims c.dims q) (length-map c.dims.dimensions at_a ∙ sym (length-map c.dims.dimensions at_b)) (λ k l. each k (let e = length-map c.dims.dimensions at_a in omega (arith, e, l)))
    where
      p : List ℕ
      p = point (known a) i

      q : List ℕ
      q = point (known b) (carried_place a b i)

      at_a : NamedDimension → ℕ
      at_a e = carried_member (same_dimension a.dims e) e 0 (get_or p (dimension_in a.dims e) 0)

      at_b : NamedDimension → ℕ
      at_b e = carried_member (same_dimension b.dims e) e 0 (get_or q (dimension_in b.dims e) 0)

      each : (k : ℕ) → k < length c.dims.dimensions → get_or (carried_point a.dims c.dims p) k 0 ≡ get_or (carried_point b.dims c.dims q) k 0
      each k l =
          let e : NamedDimension = dimension_at c.dims k in
          let j : ℕ = dimension_in b.dims e in
          let s : ℕ = dimension_in a.dims (dimension_at b.dims j) in
          let sb : s < length a.dims.dimensions = old_number a b x y na nb ab j (middle k l) in
          get_or-map at_a c.dims.dimensions k no_dimension 0 l
          ∙ ap (λ n. carried_member (dimension_at a.dims n) e 0 (get_or p n 0)) (backward k l)
          ∙ leaf_twice (dimension_at a.dims s) (dimension_at b.dims j) e (get_or p s 0) (grows a b x y na nb ab j (middle k l)) (point_leaf_at a x i s na h sb)
          ∙ ap (leaf (dimension_at b.dims j) e) (sym (leaf_there a b x y na nb ab i j h (middle k l)))
          ∙ sym (get_or-map at_b c.dims.dimensions k no_dimension 0 l)

  pub place_onward : (i : ℕ) → i < length a.shape.points → carried_place a c i ≡ carried_place b c (carried_place a b i)
  place_onward i h = ap (λ p. place_of p c.shape.points) (point_onward i h)

  facts_at : (a b : Named) (i : ℕ) → Continues a b → i < length a.shape.points → get_or a.shape.facts i 0 ≡ get_or b.shape.facts (carried_place a b i) 0
  facts_at a b i co h = eqb-true (get_or a.shape.facts i 0) (get_or b.shape.facts (carried_place a b i) 0) (and_parts (ltb (carried_place a b i) (length b.shape.points)) _ (all_at (has_point a b) i (places (known a)) co.points (in_places (known a) i h))).1

  points_onward : list_all (has_point a c) (places (known a)) ≡ true
  points_onward = all_from (has_point a c) (places (known a)) (λ i k. one i (place_below (known a) i k))
    where
      one : (i : ℕ) → i < length a.shape.points → has_point a c i ≡ true
      one i h =
          let f : carried_place a b i < length b.shape.points = place_there a b x y na nb ab i h in
          subst (λ p. (ltb p (length c.shape.points) && get_or a.shape.facts i 0 == get_or c.shape.facts p 0) ≡ true) (sym (place_onward i h))
          (and_from (ltb (carried_place b c (carried_place a b i)) (length c.shape.points)) (get_or a.shape.facts i 0 == get_or c.shape.facts (carried_place b c (carried_place a b i)) 0)
          (lt-ltb (carried_place b c (carried_place a b i)) (length c.shape.points) (place_there b c y z nb nc bc (carried_place a b i) f))
          (eq-eqb (get_or a.shape.facts i 0) (get_or c.shape.facts (carried_place b c (carried_place a b i)) 0) (facts_at a b i ab h ∙ facts_at b c (carried_place a b i) bc f)))

  -- ---- cells
  -- levels by way of the second
  pub levels_twice : (v : List ℕ) → carried_levels a.dims c.dims v ≡ carried_levels b.dims c.dims (carried_levels a.dims b.dims v)
  levels_twice v = same_lists (carried_levels a.dims c.dims v) (carried_levels b.dims c.dims (carried_levels a.dims b.dims v)) (length-carried_levels a.dims c.dims v ∙ sym (length-carried_levels b.dims c.dims (carried_levels a.dims b.dims v))) (λ k l. each k (let e = length-carried_levels a.dims c.dims v in omega (arith, e, l)))
    where
      each : (k : ℕ) → k < length c.dims.dimensions → get_or (carried_levels a.dims c.dims v) k 0 ≡ get_or (carried_levels b.dims c.dims (carried_levels a.dims b.dims v)) k 0
      each k l = carried_level_at a.dims c.dims v k l ∙ ap (λ n. get_or v n 0) (backward k l) ∙ sym (carried_level_at b.dims c.dims (carried_levels a.dims b.dims v) k l ∙ carried_level_at a.dims b.dims v (dimension_in b.dims (dimension_at c.dims k)) (middle k l))

  -- the cell of a place by way of the second
  cell_twice : (t : Cell) (i : ℕ) → i < length a.shape.points → length t.levels ≡ length a.dims.dimensions → key_at (known a) t.levels i ≡ t.key → carried_cell a.dims c.dims t ≡ carried_cell b.dims c.dims (carried_cell a.dims b.dims t)
  unfolding key_at
  cell_twice t i h long is_key = ap₂ cell (levels_twice t.levels) (same_lists (carried_cell a.dims c.dims t).key (carried_cell b.dims c.dims (carried_cell a.dims b.dims t)).key (length-map c.dims.dimensions at_a ∙ sym (length-map c.dims.dimensions at_b)) (λ k l. each k (let e = length-map c.dims.dimensions at_a in omega (arith, e, l))))
    where
      cell : List ℕ → List ℕ → Cell
      cell v key = record { levels = v; key = key }

      at_a : NamedDimension → ℕ
      at_a e = carried_member (same_dimension a.dims e) e (get_or t.levels (dimension_in a.dims e) 0) (get_or t.key (dimension_in a.dims e) 0)

      ab_key : NamedDimension → ℕ
      ab_key e = carried_member (same_dimension a.dims e) e (get_or t.levels (dimension_in a.dims e) 0) (get_or t.key (dimension_in a.dims e) 0)

      at_b : NamedDimension → ℕ
      at_b e = carried_member (same_dimension b.dims e) e (get_or (carried_levels a.dims b.dims t.levels) (dimension_in b.dims e) 0) (get_or (map ab_key b.dims.dimensions) (dimension_in b.dims e) 0)

      each : (k : ℕ) → k < length c.dims.dimensions → get_or (map at_a c.dims.dimensions) k 0 ≡ get_or (map at_b c.dims.dimensions) k 0
      each k l =
          let e : NamedDimension = dimension_at c.dims k in
          let j : ℕ = dimension_in b.dims e in
          let s : ℕ = dimension_in a.dims (dimension_at b.dims j) in
          let sb : s < length a.dims.dimensions = old_number a b x y na nb ab j (middle k l) in
          let d : NamedDimension = dimension_at a.dims s in
          let v : ℕ = get_or t.levels s 0 in
          let above : get_or t.key s 0 ≡ up (plain d) v (get_or (point (known a) i) s 0) = sym (ap (λ key. get_or key s 0) is_key) ∙ ancestor_at (plains a.dims) t.levels (point (known a) i) s (long ∙ sym (length-plains a.dims)) (point_long (plains a.dims) (point (known a) i) (is_point a x i na h)) (let u = length-plains a.dims in omega (arith, u, sb)) ∙ ap (λ q. up q v (get_or (point (known a) i) s 0)) (plain_at a.dims s sb) in
          get_or-map at_a c.dims.dimensions k no_dimension 0 l
          ∙ ap (λ n. carried_member (dimension_at a.dims n) e (get_or t.levels n 0) (get_or t.key n 0)) (backward k l)
          ∙ subst (λ w. carried_member d e v w ≡ carried_member (dimension_at b.dims j) e v (carried_member d (dimension_at b.dims j) v w)) (sym above) (member_twice d (dimension_at b.dims j) e v (get_or (point (known a) i) s 0) (grows a b x y na nb ab j (middle k l)) (point_leaf_at a x i s na h sb))
          ∙ ap₂ (λ lv w. carried_member (dimension_at b.dims j) e lv w) (sym (carried_level_at a.dims b.dims t.levels j (middle k l))) (sym (get_or-map ab_key b.dims.dimensions j no_dimension 0 (middle k l)))
          ∙ sym (get_or-map at_b c.dims.dimensions k no_dimension 0 l)

  -- a protected cell has a place, and a level for each dimension
  has_place : (m : ℕ) (t : Cell) (way : Method) → method (known a) m ≡ way → IsIn t (protected (known a) m) → (i : ℕ) × (i < length a.shape.points) × (length t.levels ≡ length a.dims.dimensions) × (key_at (known a) t.levels i ≡ t.key)
  unfolding protected
  has_place m t Plain e is_in = absurd (subst (λ w. IsIn t (protected_by w (known a) m)) e is_in)
  has_place m t Lattice e is_in =
      let r = (protected_are (known a) m t e).0 is_in in
      (r.5, r.6, (levels_at (plains a.dims) t.levels (finer_in_range (plains a.dims) t.levels r.0.levels r.3 (Each-at (λ o. are_levels (plains a.dims) o.levels ≡ true) r.0 a.policy.objects na.objects r.1))).0 ∙ length-plains a.dims, same_eq (key_at (known a) t.levels r.5) t.key r.8)
  has_place m t Parity e is_in =
      let r = IsIn-map (core_cell (known a)) t (guarded (known a) m) (subst (λ w. IsIn t (protected_by w (known a) m)) e is_in) in
      (r.0, guarded_below (known a) m r.0 r.1, subst (λ s. length s.levels ≡ length a.dims.dimensions) r.2 (core_long a b x y na nb ab), subst (λ s. key_at (known a) s.levels r.0 ≡ s.key) r.2 refl)

  cells_onward : list_all (λ m. list_all (protects a c m) (protected (known a) m)) (count_from 0 (length a.dims.measures)) ≡ true
  cells_onward = all_from (λ m. list_all (protects a c m) (protected (known a) m)) (count_from 0 (length a.dims.measures)) (λ m k. all_from (protects a c m) (protected (known a) m) (λ t is_in. one m (let r = (IsIn-count_from m 0 (length a.dims.measures) k).1 in omega (arith, r)) t is_in))
    where
      one : (m : ℕ) → m < length a.dims.measures → (t : Cell) → IsIn t (protected (known a) m) → protects a c m t ≡ true
      one m h t is_in =
          let r = has_place m t (method (known a) m) refl is_in in
          let s = protected_there a b x y na nb ab m t h is_in in
          let u = protected_there b c y z nb nc bc (measure_in a.dims b.dims m) (carried_cell a.dims b.dims t) (is_found a b m ab h).there s in
          any_has (same_cell (carried_cell a.dims c.dims t)) (carried_cell b.dims c.dims (carried_cell a.dims b.dims t)) (protected (known c) (measure_in a.dims c.dims m)) (subst (λ n. IsIn (carried_cell b.dims c.dims (carried_cell a.dims b.dims t)) (protected (known c) n)) (sym (measure_onward m h)) u) (same_cell_refl (carried_cell a.dims c.dims t) (carried_cell b.dims c.dims (carried_cell a.dims b.dims t)) (cell_twice t r.0 r.1 r.2 r.3))

  pub continues_onward : Continues a c
  continues_onward = record {
    dimensions = dimensions_onward;
    no_other = no_other_onward;
    levels = levels_onward;
    paths = paths_onward;
    measures = measures_onward;
    points = points_onward;
    cells = cells_onward;
  }

  -- ---- values and changes
  pub values_onward : KeepsValues a b x y → KeepsValues b c y z → KeepsValues a c x z
  values_onward p q = all_from (has_values a c x z) (places (known a)) (λ i ki. all_from (λ m. int_eq (value_at z (measure_in a.dims c.dims m) (carried_place a c i)) (value_at x m i)) (count_from 0 (length a.dims.measures)) (λ m km. one i m (place_below (known a) i ki) (let r = (IsIn-count_from m 0 (length a.dims.measures) km).1 in omega (arith, r))))
    where
      one : (i m : ℕ) → i < length a.shape.points → m < length a.dims.measures → int_eq (value_at z (measure_in a.dims c.dims m) (carried_place a c i)) (value_at x m i) ≡ true
      one i m hi hm = (Decides-int_eq (value_at z (measure_in a.dims c.dims m) (carried_place a c i)) (value_at x m i)).1
          (ap₂ (λ n p. value_at z n p) (measure_onward m hm) (place_onward i hi)
          ∙ agreed b c y z nb nc bc q (measure_in a.dims b.dims m) (carried_place a b i) (is_found a b m ab hm).there (place_there a b x y na nb ab i hi)
          ∙ agreed a b x y na nb ab p m i hm hi)

  pub changes_onward : (ch : List ℤ) → old_changes a c ch ≡ old_changes a b (old_changes b c ch)
  changes_onward ch = map_alike (λ i. get_or ch (carried_place a c i) (pos 0)) (λ i. get_or (old_changes b c ch) (carried_place a b i) (pos 0)) (places (known a)) (λ i k. let h = place_below (known a) i k in ap (λ p. get_or ch p (pos 0)) (place_onward i h) ∙ sym (old_change_at b c ch (carried_place a b i) (place_there a b x y na nb ab i h)))

  -- a measure of the third that the second has, by its name in the first
  pub measure_before : (m : ℕ) → measure_in c.dims b.dims m < length b.dims.measures → measure_in c.dims a.dims m ≡ measure_in b.dims a.dims (measure_in c.dims b.dims m)
  measure_before m h = ap (λ n. place_of n (measure_names a.dims)) (sym (measure_name c.dims b.dims m h))

  -- what the first has, the second has
  pub measure_between : (m : ℕ) → measure_in c.dims a.dims m < length a.dims.measures → measure_in c.dims b.dims m < length b.dims.measures
  measure_between m h = subst (λ n. n < length b.dims.measures) (ap (λ n. place_of n (measure_names b.dims)) (measure_name c.dims a.dims m h)) (is_found a b (measure_in c.dims a.dims m) ab h).there

pub onward_law : ContinuesOnward
onward_law a b c x y z na nb nc ab bc p q = (continues_onward a b c x y z na nb nc ab bc, values_onward a b c x y z na nb nc ab bc p q)
