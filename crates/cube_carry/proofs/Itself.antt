-- A history carried over to its own cube.
use Rattle.std.specs.List.{list_all}
use Rattle.std.specs.Prelude.{◌+◌}
use Rattle.std.proofs.Common.{◌≡◌, ℕ, suc, ◌<◌, Bool, true, cond, not, ◌||◌, List, [], ◌∷◌, ◌++◌, length, map, filter, flat_map, is_none, get_or, Option, Some, None, ℤ, refl, sym, ap, ap₂, ◌∙◌, subst, arith, append-nil, append_assoc, inl, inr}
use Rattle.std.proofs.lemmas.Bool.{and_from, or_left}
use Rattle.std.proofs.lemmas.Grind.{flat_map-append}
use Rattle.std.proofs.lemmas.List.{get_or-map, length-map, map-append}
use Rattle.std.proofs.lemmas.List.Elements.{filter-append}
use Rattle.cube_model.specs.declared.entry.Entry.{Entry}
use Rattle.cube_model.specs.declared.entry.Entry.TheVariants.{Linked}
use Rattle.cube_model.specs.declared.link.Link.{Link}
use Rattle.cube_model.specs.declared.link.Link.TheVariants.{Pair, Single}
use Rattle.cube_model.specs.declared.policy.Method.{Method}
use Rattle.cube_model.specs.declared.policy.Method.TheVariants.{Plain, Lattice, Parity}
use Rattle.cube_model.specs.Cubes.{same, core, places, point, key_at, together, cuboids_below, count_from, place_of, names_at, IsIn, ancestors}
use Rattle.cube_model.specs.Dims.{plain, plains, members, dimension_names, measure_names, dimension_at, no_dimension, no_measure}
use Rattle.cube_model.specs.Protection.{method, listed, uncut, is_cut, protected}
use Rattle.cube_model.specs.Links.{basis}
use Rattle.cube_model.specs.Verdicts.{source, links_of, IsAdmissible}
use Rattle.cube_model.specs.Compaction.{source_entry, compacted_by, compacted_on, compacted}
use Rattle.cube_model.proofs.Compacts.{source_in_range, InRange}
use Rattle.cube_model.proofs.DimsFacts.{has_at, place_of-own, place_of-below, get_or-place_of, count_from-more, length-names_at}
use Rattle.cube_model.proofs.Histories.{admissible_allowed, source_cuts}
use Rattle.cube_model.proofs.Leasts.{fails, in_places}
use Rattle.cube_model.proofs.Members.{IsIn-count_from, map_has, same_refl}
use Rattle.cube_model.proofs.Parities.{IsOf, core_alone, all_from, link_places}
use Rattle.cube_model.proofs.Sources.{place_below}
use Rattle.cube_model.proofs.Walks.{listed_has}
use Rattle.cube_carry.specs.Names.{Named, known, world_of, IsNamed, dimension_in, same_dimension, measure_in, carried_member, carried_levels, carried_point, carried_place, carried_link, old_places}
use Rattle.cube_carry.specs.Carrying.{keeps_apart, can_stand, last, source_for, carried_by, carried_on, carried_history}
use Rattle.cube_carry.specs.TwoLives.{CarriedToItself}
use Rattle.cube_carry.proofs.Embeds.{is_plain, is_point, point_leaf_at}
use Rattle.cube_carry.proofs.Orders.{length-plains, levels_at, point_long, same_lists, number_in, length-carried_levels, carried_level_at}
use Rattle.cube_carry.proofs.Spread.{basis_linked}

-- ---- lists
map_itself : {X : Type 0} (g : X → X) (xs : List X) → ((x : X) → IsIn x xs → g x ≡ x) → map g xs ≡ xs
map_itself g [] e = refl
map_itself g (x ∷ xs) e = ap₂ (λ y ys. y ∷ ys) (e x (inl refl)) (map_itself g xs (λ y h. e y (inr h)))

flat_map_alike : {X Y : Type 0} (g k : X → List Y) (xs : List X) → ((x : X) → IsIn x xs → g x ≡ k x) → flat_map g xs ≡ flat_map k xs
flat_map_alike g k [] e = refl
flat_map_alike g k (x ∷ xs) e = ap₂ (λ y ys. y ++ ys) (e x (inl refl)) (flat_map_alike g k xs (λ y h. e y (inr h)))

last_behind : {X : Type 0} (xs : List X) (x : X) → last (xs ++ x ∷ []) ≡ Some x
last_behind [] x = refl
last_behind (y ∷ []) x = refl
last_behind (y ∷ z ∷ zs) x = last_behind (z ∷ zs) x

one_more : (l : ℕ) → count_from 0 (suc l) ≡ count_from 0 l ++ l ∷ []
one_more l = ap (count_from 0) (next l) ∙ count_from-more 0 l ∙ ap (λ k. count_from 0 l ++ k ∷ []) (from_none l)
  where
    next : (l : ℕ) → suc l ≡ l + 1
    next l = omega arith

    from_none : (l : ℕ) → 0 + l ≡ l
    from_none l = omega arith

-- a cuboid is the last of those as fine as it
below_last : (c : List ℕ) → (xs : List (List ℕ)) × (cuboids_below c ≡ xs ++ c ∷ [])
below_last [] = ([], refl)
below_last (l ∷ ls) = more (below_last ls)
  where
    finer : ℕ → List (List ℕ)
    finer a = map (λ rest. a ∷ rest) (cuboids_below ls)

    more : (xs : List (List ℕ)) × (cuboids_below ls ≡ xs ++ ls ∷ []) → (xs : List (List ℕ)) × (cuboids_below (l ∷ ls) ≡ xs ++ (l ∷ ls) ∷ [])
    more r = (
      flat_map finer (count_from 0 l) ++ map (λ rest. l ∷ rest) r.0,
      ap (flat_map finer) (one_more l)
          ∙ flat_map-append finer (count_from 0 l) (l ∷ [])
          ∙ ap (λ z. flat_map finer (count_from 0 l) ++ z) (append-nil (finer l) ∙ ap (map (λ rest. l ∷ rest)) r.1 ∙ map-append (λ rest. l ∷ rest) r.0 (ls ∷ []))
          ∙ sym (append_assoc (flat_map finer (count_from 0 l)) (map (λ rest. l ∷ rest) r.0) ((l ∷ ls) ∷ [])),
    )

last_passing : (p : List ℕ → Bool) (c : List ℕ) → p c ≡ true → last (filter p (cuboids_below c)) ≡ Some c
last_passing p c e =
    let r = below_last c in
    ap (λ xs. last (filter p xs)) r.1 ∙ ap last (filter-append p r.0 (c ∷ []) ∙ ap (λ b. filter p r.0 ++ cond b (c ∷ []) []) e) ∙ last_behind (filter p r.0) c

module _ (a : Named) (values : List (List ℤ)) (h : List Entry) (na : IsNamed a values) (adm : IsAdmissible (known a) h) where
  abbrev n : ℕ
  n = length a.shape.points

  same_number : (k : ℕ) → k < length a.dims.dimensions → number_in a.dims a.dims k ≡ k
  same_number k l = ap (λ x. place_of x (dimension_names a.dims)) (sym (get_or-map (λ d. d.name) a.dims.dimensions k no_dimension [] l)) ∙ place_of-own (dimension_names a.dims) na.dimensions k (let e = length-map a.dims.dimensions (λ d. d.name) in omega (arith, e, l))

  same_measure : (m : ℕ) → m < length a.dims.measures → measure_in a.dims a.dims m ≡ m
  same_measure m l = ap (λ x. place_of x (measure_names a.dims)) (sym (get_or-map (λ d. d.name) a.dims.measures m no_measure [] l)) ∙ place_of-own (measure_names a.dims) na.measures m (let e = length-map a.dims.measures (λ d. d.name) in omega (arith, e, l))

  same_levels : (c : List ℕ) → length c ≡ length a.dims.dimensions → carried_levels a.dims a.dims c ≡ c
  same_levels c long = same_lists (carried_levels a.dims a.dims c) c (length-carried_levels a.dims a.dims c ∙ sym long) (λ k l. let b : k < length a.dims.dimensions = let e = length-carried_levels a.dims a.dims c in omega (arith, e, l) in carried_level_at a.dims a.dims c k b ∙ ap (λ z. get_or c z 0) (same_number k b))

  same_leaf : (k x : ℕ) → k < length a.dims.dimensions → x < length (dimension_at a.dims k).paths → carried_member (dimension_at a.dims k) (dimension_at a.dims k) 0 x ≡ x
  same_leaf k x l b = ap (λ ns. place_of (get_or ns x []) ns) once ∙ place_of-own (names_at (plain (dimension_at a.dims k)) 0) once x (let e = length-names_at (dimension_at a.dims k) 0 in omega (arith, e, b))
    where
      once : members (dimension_at a.dims k) 0 ≡ names_at (plain (dimension_at a.dims k)) 0
      once = (is_plain a values k na l).once

  same_point : (i : ℕ) → i < n → carried_point a.dims a.dims (point (known a) i) ≡ point (known a) i
  same_point i l = same_lists (carried_point a.dims a.dims (point (known a) i)) (point (known a) i) (long ∙ sym (point_long (plains a.dims) (point (known a) i) (is_point a values i na l) ∙ length-plains a.dims)) (λ k z. at k (omega (arith, long, z)))
    where
      long : length (carried_point a.dims a.dims (point (known a) i)) ≡ length a.dims.dimensions
      long = length-map a.dims.dimensions (λ e. carried_member (same_dimension a.dims e) e 0 (get_or (point (known a) i) (dimension_in a.dims e) 0))

      at : (k : ℕ) → k < length a.dims.dimensions → get_or (carried_point a.dims a.dims (point (known a) i)) k 0 ≡ get_or (point (known a) i) k 0
      at k b = get_or-map (λ e. carried_member (same_dimension a.dims e) e 0 (get_or (point (known a) i) (dimension_in a.dims e) 0)) a.dims.dimensions k no_dimension 0 b
          ∙ ap (λ z. carried_member (dimension_at a.dims z) (dimension_at a.dims k) 0 (get_or (point (known a) i) z 0)) (same_number k b)
          ∙ same_leaf k (get_or (point (known a) i) k 0) b (point_leaf_at a values i k na l b)

  pub same_place : (i : ℕ) → i < n → carried_place a a i ≡ i
  unfolding key_at
  same_place i l = ap (λ x. place_of x a.shape.points) (same_point i l) ∙ core_alone (world_of a values) i p na.world l below (ap (λ x. same (ancestors (plains a.dims) (core (known a)) x) (key_at (known a) (core (known a)) i)) (get_or-place_of (point (known a) i) a.shape.points (has_at a.shape.points i l)) ∙ same_refl (key_at (known a) (core (known a)) i))
    where
      p : ℕ
      p = place_of (point (known a) i) a.shape.points

      below : p < n
      below = place_of-below (point (known a) i) a.shape.points (has_at a.shape.points i l)

  same_link : (l : Link) → IsOf (λ i. i < n) l → carried_link a a l ≡ l
  same_link (Pair i j) b = ap₂ (λ x y. Pair x y) (same_place i b.0) (same_place j b.1)
  same_link (Single i) b = ap Single (same_place i b)

  all_old : (j : ℕ) → j < n → listed j (old_places a a) ≡ true
  all_old j l = listed_has j (old_places a a) (subst (λ x. IsIn x (old_places a a)) (same_place j l) (map_has (carried_place a a) j (places (known a)) (in_places (known a) j l)))

  apart : (c : List ℕ) → keeps_apart a a c ≡ true
  apart c = all_from (λ i. list_all (λ j. listed j (old_places a a) || not (together (known a) c i j)) (places (known a))) (old_places a a) (λ i hi.
      all_from (λ j. listed j (old_places a a) || not (together (known a) c i j)) (places (known a)) (λ j hj. or_left (listed j (old_places a a)) (not (together (known a) c i j)) (all_old j (place_below (known a) j hj))))

  same_source : (m : ℕ) (o : Option (List ℕ)) → method (known a) m ≡ Lattice → source h m ≡ o → source_for a a m o ≡ o
  same_source m None way e = refl
  same_source m (Some s) way e = ap (λ c. last (filter (can_stand a a m) (cuboids_below c))) (same_levels s long) ∙ last_passing (can_stand a a m) s (and_from (is_none (uncut (known a) s m)) (keeps_apart a a s) (ap is_none uncut_none) (apart s))
    where
      long : length s ≡ length a.dims.dimensions
      long = (levels_at (plains a.dims) s (subst (InRange (known a)) e (source_in_range (known a) h m (admissible_allowed (known a) [] h adm)))).0 ∙ length-plains a.dims

      uncut_none : uncut (known a) s m ≡ None
      uncut_none = fails (λ t. not (is_cut (known a) s t)) (protected (known a) m) (λ t k. ap not (source_cuts (known a) h m s way adm e t k))

  itself_by : (m : ℕ) (way : Method) → method (known a) m ≡ way → m < length a.dims.measures → carried_by way a a h m ≡ compacted_by way (known a) h m
  itself_by m Plain way l = refl
  itself_by m Lattice way l = ap (source_entry m) (ap (λ z. source_for a a m (source h z)) (same_measure m l) ∙ same_source m (source h m) way refl)
  itself_by m Parity way l = ap (λ z. map (Linked m) (map (carried_link a a) (basis n (links_of (known a) h z)))) (same_measure m l)
      ∙ ap (map (Linked m)) (map_itself (carried_link a a) (basis n (links_of (known a) h m)) (λ x k. same_link x (link_places n x (basis_linked (known a) h m adm way x k))))

  pub to_itself : carried_history a a h ≡ compacted (known a) h
  to_itself = flat_map_alike (carried_on a a h) (compacted_on (known a) h) (count_from 0 (length a.policy.methods)) (λ m k. itself_by m (method (known a) m) refl (let r = (IsIn-count_from m 0 (length a.policy.methods) k).1 in let e = na.methods in omega (arith, r, e)))

pub carried_to_itself : CarriedToItself
carried_to_itself a values h na adm = to_itself a values h na adm
