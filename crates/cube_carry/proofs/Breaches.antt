-- What keeps a cube from continuing another.
use Rattle.std.specs.List.{list_all}
use Rattle.std.proofs.Common.{◌≡◌, ◌↔◌, Bool, true, false, cond, not, ◌&&◌, List, [], ◌∷◌, ◌++◌, length, map, flat_map, refl, ap₂}
use Rattle.std.proofs.lemmas.Bool.{false≢true, and_parts, and_from}
use Rattle.cube_model.specs.Cubes.{count_from, places}
use Rattle.cube_model.specs.Protection.{protected}
use Rattle.cube_model.proofs.Parities.{all_at, all_from}
use Rattle.cube_carry.specs.Names.{known}
use Rattle.cube_carry.specs.Continues.{Continues, KeepsValues, has_dimension, has_levels, has_path, has_paths, has_measure, has_point, has_values, protects, failing, breaches, BreachesAre}
use Rattle.cube_carry.specs.Continues.Breach.{NoDimension, OtherDimension, OtherLevels, NoPath, NoMeasure, NoPoint, NotProtected}

-- nothing fails
none_fails : {X Y : Type 0} (f : X → Y) (p : X → Bool) (xs : List X) → (map f (failing p xs) ≡ []) ↔ (list_all p xs ≡ true)
none_fails f p [] = ((λ e. refl), (λ e. refl))
none_fails f p (x ∷ xs) = more (p x) refl (none_fails f p xs)
  where
    more : (q : Bool) → p x ≡ q → (map f (failing p xs) ≡ []) ↔ (list_all p xs ≡ true) → (map f (cond (not q) (x ∷ failing p xs) (failing p xs)) ≡ []) ↔ ((q && list_all p xs) ≡ true)
    more true e again = again
    more false e again = ((λ z. absurd (cc)), (λ z. absurd (false≢true z)))

parts_empty : {X : Type 0} (xs ys : List X) → xs ++ ys ≡ [] → (xs ≡ []) × (ys ≡ [])
parts_empty [] ys e = (refl, e)
parts_empty (x ∷ xs) ys e = absurd (cc)

both_empty : {X : Type 0} (xs ys : List X) → xs ≡ [] → ys ≡ [] → xs ++ ys ≡ []
both_empty xs ys p q = ap₂ (λ x y. x ++ y) p q

-- no list has anything
all_empty : {X Y : Type 0} (f : X → List Y) (p : X → Bool) (xs : List X) → ((x : X) → (f x ≡ []) ↔ (p x ≡ true)) → (flat_map f xs ≡ []) ↔ (list_all p xs ≡ true)
all_empty f p [] e = ((λ z. refl), (λ z. refl))
all_empty f p (x ∷ xs) e = more (all_empty f p xs e)
  where
    more : (flat_map f xs ≡ []) ↔ (list_all p xs ≡ true) → (f x ++ flat_map f xs ≡ []) ↔ ((p x && list_all p xs) ≡ true)
    more again = (
      (λ z. let q = parts_empty (f x) (flat_map f xs) z in and_from (p x) (list_all p xs) ((e x).0 q.0) (again.0 q.1)),
      (λ z. let q = and_parts (p x) (list_all p xs) z in both_empty (f x) (flat_map f xs) ((e x).1 q.0) (again.1 q.1)),
    )

-- two tests that all pass
all_both : {X : Type 0} (p q : X → Bool) (xs : List X) → (list_all (λ x. p x && q x) xs ≡ true) ↔ ((list_all p xs ≡ true) × (list_all q xs ≡ true))
all_both p q xs = (
  (λ e. (all_from p xs (λ x h. (and_parts (p x) (q x) (all_at (λ y. p y && q y) x xs e h)).0), all_from q xs (λ x h. (and_parts (p x) (q x) (all_at (λ y. p y && q y) x xs e h)).1))),
  (λ e. all_from (λ y. p y && q y) xs (λ x h. and_from (p x) (q x) (all_at p x xs e.0 h) (all_at q x xs e.1 h))),
)

pub breaches_are : BreachesAre
breaches_are a b old new = (there, back)
  where
    no_dimension : (map (λ d. NoDimension d.name) (failing (has_dimension b.dims) a.dims.dimensions) ≡ []) ↔ (list_all (has_dimension b.dims) a.dims.dimensions ≡ true)
    no_dimension = none_fails (λ d. NoDimension d.name) (has_dimension b.dims) a.dims.dimensions

    other_dimension : (map (λ d. OtherDimension d.name) (failing (has_dimension a.dims) b.dims.dimensions) ≡ []) ↔ (list_all (has_dimension a.dims) b.dims.dimensions ≡ true)
    other_dimension = none_fails (λ d. OtherDimension d.name) (has_dimension a.dims) b.dims.dimensions

    other_levels : (map (λ d. OtherLevels d.name) (failing (has_levels b.dims) a.dims.dimensions) ≡ []) ↔ (list_all (has_levels b.dims) a.dims.dimensions ≡ true)
    other_levels = none_fails (λ d. OtherLevels d.name) (has_levels b.dims) a.dims.dimensions

    no_path : (flat_map (λ d. map (NoPath d.name) (failing (has_path b.dims d) d.paths)) a.dims.dimensions ≡ []) ↔ (list_all (has_paths b.dims) a.dims.dimensions ≡ true)
    no_path = all_empty (λ d. map (NoPath d.name) (failing (has_path b.dims d) d.paths)) (has_paths b.dims) a.dims.dimensions (λ d. none_fails (NoPath d.name) (has_path b.dims d) d.paths)

    no_measure : (map NoMeasure (failing (has_measure a b) (count_from 0 (length a.dims.measures))) ≡ []) ↔ (list_all (has_measure a b) (count_from 0 (length a.dims.measures)) ≡ true)
    no_measure = none_fails NoMeasure (has_measure a b) (count_from 0 (length a.dims.measures))

    no_point : (map NoPoint (failing (λ i. has_point a b i && has_values a b old new i) (places (known a))) ≡ []) ↔ (list_all (λ i. has_point a b i && has_values a b old new i) (places (known a)) ≡ true)
    no_point = none_fails NoPoint (λ i. has_point a b i && has_values a b old new i) (places (known a))

    points_and_values : (list_all (λ i. has_point a b i && has_values a b old new i) (places (known a)) ≡ true) ↔ ((list_all (has_point a b) (places (known a)) ≡ true) × (list_all (has_values a b old new) (places (known a)) ≡ true))
    points_and_values = all_both (has_point a b) (has_values a b old new) (places (known a))

    not_protected : (flat_map (λ m. map (NotProtected m) (failing (protects a b m) (protected (known a) m))) (count_from 0 (length a.dims.measures)) ≡ []) ↔ (list_all (λ m. list_all (protects a b m) (protected (known a) m)) (count_from 0 (length a.dims.measures)) ≡ true)
    not_protected = all_empty (λ m. map (NotProtected m) (failing (protects a b m) (protected (known a) m))) (λ m. list_all (protects a b m) (protected (known a) m)) (count_from 0 (length a.dims.measures)) (λ m. none_fails (NotProtected m) (protects a b m) (protected (known a) m))

    there : breaches a b old new ≡ [] → Continues a b × KeepsValues a b old new
    there e =
        let p6 = parts_empty _ _ e in
        let p5 = parts_empty _ _ p6.0 in
        let p4 = parts_empty _ _ p5.0 in
        let p3 = parts_empty _ _ p4.0 in
        let p2 = parts_empty _ _ p3.0 in
        let p1 = parts_empty _ _ p2.0 in
        let v = points_and_values.0 (no_point.0 p5.1) in
        (record { dimensions = no_dimension.0 p1.0; no_other = other_dimension.0 p1.1; levels = other_levels.0 p2.1; paths = no_path.0 p3.1; measures = no_measure.0 p4.1; points = v.0; cells = not_protected.0 p6.1 }, v.1)

    back : Continues a b × KeepsValues a b old new → breaches a b old new ≡ []
    back c = both_empty _ _ (both_empty _ _ (both_empty _ _ (both_empty _ _ (both_empty _ _ (both_empty _ _ (no_dimension.1 c.0.dimensions) (other_dimension.1 c.0.no_other)) (other_levels.1 c.0.levels)) (no_path.1 c.0.paths)) (no_measure.1 c.0.measures)) (no_point.1 (points_and_values.1 (c.0.points, c.1)))) (not_protected.1 c.0.cells)
