-- When a cube continues another.
use Rattle.std.specs.List.{list_all, list_any}
use Rattle.std.specs.Ordering.{int_eq}
use Rattle.std.specs.Prelude.{◌≡◌, ℕ, Bool, true, false, ◌&&◌, ◌==◌, nat_lt, List, [], ◌∷◌, ◌++◌, ◌↔◌, not, map, filter, flat_map, length, slice_index_or, ℤ, pos}
use Rattle.cube_model.specs.declared.cell.Cell.{Cell}
use Rattle.cube_model.specs.declared.policy.Method.{Method}
use Rattle.cube_model.specs.declared.policy.Method.TheVariants.{Plain, Lattice, Parity}
use Rattle.cube_model.specs.Cubes.{same, count_from, places}
use Rattle.cube_model.specs.Dims.{Dims, NamedDimension, dimension_names, measure_at}
use Rattle.cube_model.specs.Protection.{method, same_cell, protected}
use Rattle.cube_carry.specs.Names.{Named, IsNamed, known, same_dimension, measure_in, carried_cell, carried_place}

-- two lists of texts are equal
abbrev pub same_texts : List (List ℕ) → List (List ℕ) → Bool
same_texts [] [] = true
same_texts [] (y ∷ ys) = false
same_texts (x ∷ xs) [] = false
same_texts (x ∷ xs) (y ∷ ys) = same x y && same_texts xs ys

abbrev pub same_method : Method → Method → Bool
same_method Plain Plain = true
same_method Plain Lattice = false
same_method Plain Parity = false
same_method Lattice Plain = false
same_method Lattice Lattice = true
same_method Lattice Parity = false
same_method Parity Plain = false
same_method Parity Lattice = false
same_method Parity Parity = true

-- there is a dimension of that name
abbrev pub has_dimension : Dims → NamedDimension → Bool
has_dimension s d = list_any (same d.name) (dimension_names s)

-- the dimension of that name has the same named levels in the same order
abbrev pub has_levels : Dims → NamedDimension → Bool
has_levels s d = same_texts d.levels (same_dimension s d).levels

-- the dimension of that name has the path
abbrev pub has_path : Dims → NamedDimension → List (List ℕ) → Bool
has_path s d path = list_any (same_texts path) (same_dimension s d).paths

-- and each of the paths
abbrev pub has_paths : Dims → NamedDimension → Bool
has_paths s d = list_all (has_path s d) d.paths

-- there is a measure of that name, with the same decimals and the same method
abbrev pub has_measure : Named → Named → ℕ → Bool
has_measure a b m = nat_lt (measure_in a.dims b.dims m) (length b.dims.measures)
    && (measure_at a.dims m).decimals == (measure_at b.dims (measure_in a.dims b.dims m)).decimals
    && same_method (method (known a) m) (method (known b) (measure_in a.dims b.dims m))

-- there is a point with the same leaves and as many facts
abbrev pub has_point : Named → Named → ℕ → Bool
has_point a b i = nat_lt (carried_place a b i) (length b.shape.points) && slice_index_or a.shape.facts i 0 == slice_index_or b.shape.facts (carried_place a b i) 0

-- the cell of the same names is protected on the measure of that name
abbrev pub protects : Named → Named → ℕ → Cell → Bool
protects a b m t = list_any (same_cell (carried_cell a.dims b.dims t)) (protected (known b) (measure_in a.dims b.dims m))

-- The second cube continues the first. It has the same dimensions, in whatever order, with the same levels; it has each path, each
-- measure and each point, and may have more of them; and it protects each cell that the first does.
pub record Continues (a b : Named) : Type 0 where
  pub dimensions : list_all (has_dimension b.dims) a.dims.dimensions ≡ true
  pub no_other : list_all (has_dimension a.dims) b.dims.dimensions ≡ true
  pub levels : list_all (has_levels b.dims) a.dims.dimensions ≡ true
  pub paths : list_all (has_paths b.dims) a.dims.dimensions ≡ true
  pub measures : list_all (has_measure a b) (count_from 0 (length a.dims.measures)) ≡ true
  pub points : list_all (has_point a b) (places (known a)) ≡ true
  pub cells : list_all (λ m. list_all (protects a b m) (protected (known a) m)) (count_from 0 (length a.dims.measures)) ≡ true

-- the value of a measure at a place
abbrev pub value_at : List (List ℤ) → ℕ → ℕ → ℤ
value_at values m i = slice_index_or (slice_index_or values m []) i (pos 0)

-- each old measure has the same value at the point with the same leaves
abbrev pub has_values : Named → Named → List (List ℤ) → List (List ℤ) → ℕ → Bool
has_values a b old new i = list_all (λ m. int_eq (value_at new (measure_in a.dims b.dims m) (carried_place a b i)) (value_at old m i)) (count_from 0 (length a.dims.measures))

-- so at each old point
abbrev pub KeepsValues : Named → Named → List (List ℤ) → List (List ℤ) → Type 0
KeepsValues a b old new = list_all (has_values a b old new) (places (known a)) ≡ true

-- what keeps a cube from continuing another: a dimension of this name that one of them has not, or that has other levels; a path that
-- the dimension has not; a measure that is not there, with its decimals and its method; a place whose point is not there, with its
-- facts and its values; a cell of a measure that is not protected
pub data Breach : Type 0 where
  NoDimension : List ℕ → Breach
  OtherDimension : List ℕ → Breach
  OtherLevels : List ℕ → Breach
  NoPath : List ℕ → List (List ℕ) → Breach
  NoMeasure : ℕ → Breach
  NoPoint : ℕ → Breach
  NotProtected : ℕ → Cell → Breach

-- those that fail a test
abbrev pub failing : {X : Type 0} → (X → Bool) → List X → List X
failing p xs = filter (λ x. not (p x)) xs

-- All that keeps the second cube from continuing the first, the first first.
abbrev pub breaches : Named → Named → List (List ℤ) → List (List ℤ) → List Breach
breaches a b old new =
    map (λ d. NoDimension d.name) (failing (has_dimension b.dims) a.dims.dimensions)
    ++ map (λ d. OtherDimension d.name) (failing (has_dimension a.dims) b.dims.dimensions)
    ++ map (λ d. OtherLevels d.name) (failing (has_levels b.dims) a.dims.dimensions)
    ++ flat_map (λ d. map (NoPath d.name) (failing (has_path b.dims d) d.paths)) a.dims.dimensions
    ++ map NoMeasure (failing (has_measure a b) (count_from 0 (length a.dims.measures)))
    ++ map NoPoint (failing (λ i. has_point a b i && has_values a b old new i) (places (known a)))
    ++ flat_map (λ m. map (NotProtected m) (failing (protects a b m) (protected (known a) m))) (count_from 0 (length a.dims.measures))

-- A cube continues another, with its values, exactly where nothing keeps it from that.
abbrev pub BreachesAre : Type 0
BreachesAre = (a b : Named) (old new : List (List ℤ)) → (breaches a b old new ≡ []) ↔ (Continues a b × KeepsValues a b old new)

-- A cube that continues one which continues a third, continues that, with its values.
abbrev pub ContinuesOnward : Type 0
ContinuesOnward = (a b c : Named) (x y z : List (List ℤ)) → IsNamed a x → IsNamed b y → IsNamed c z → Continues a b → Continues b c → KeepsValues a b x y → KeepsValues b c y z → Continues a c × KeepsValues a c x z
