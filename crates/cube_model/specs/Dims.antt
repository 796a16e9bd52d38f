-- Dimensions and measures with their names, the rules that they keep, and look-ups by name.
use Rattle.std.specs.Prelude.{◌≡◌, ℕ, ◌≤◌, true, ◌==◌, List, [], ◌++◌, length, map, position, slice_index_or, Option}
use Rattle.std.specs.List.{list_all, AllByRecursion}
use Rattle.std.specs.Str.{bytes_eq}
use Rattle.cube_model.specs.Cubes.{Dimension, names_at, distinct, place_of, count_from, cuboid_count, IsHierarchy}
use Rattle.cube_model.specs.Names.{is_name, is_level_name, is_measure_name}

-- a dimension: its name, its fact column, its named levels from the finest on, and a path per leaf
pub record NamedDimension : Type 0 where
  pub name : List ℕ
  pub column : List ℕ
  pub levels : List (List ℕ)
  pub paths : List (List (List ℕ))

-- a measure: its name, its fact column, and how many decimals it has
pub record NamedMeasure : Type 0 where
  pub name : List ℕ
  pub column : List ℕ
  pub decimals : ℕ

-- what a dimension file says
pub record Dims : Type 0 where
  pub dimensions : List NamedDimension
  pub measures : List NamedMeasure

-- the dimension without its names
abbrev pub plain : NamedDimension → Dimension
plain d = record { levels = length d.levels; paths = d.paths }

abbrev pub plains : Dims → List Dimension
plains s = map plain s.dimensions

-- the names of the members of a level, by number
abbrev pub members : NamedDimension → ℕ → List (List ℕ)
members d l = distinct (names_at (plain d) l)

-- for each named level the ancestor's name of each leaf
abbrev pub ancestor_names : NamedDimension → List (List (List ℕ))
ancestor_names d = map (names_at (plain d)) (count_from 0 (length d.levels))

abbrev pub dimension_names : Dims → List (List ℕ)
dimension_names s = map (λ d. d.name) s.dimensions

abbrev pub measure_names : Dims → List (List ℕ)
measure_names s = map (λ m. m.name) s.measures

-- the columns of a fact file that the dimensions and the measures name
abbrev pub column_names : Dims → List (List ℕ)
column_names s = map (λ d. d.column) s.dimensions ++ map (λ m. m.column) s.measures

-- what stands for a dimension or a measure where there is none
abbrev pub no_dimension : NamedDimension
no_dimension = record { name = []; column = []; levels = []; paths = [] }

abbrev pub no_measure : NamedMeasure
no_measure = record { name = []; column = []; decimals = 0 }

-- the dimension or the measure with a number, counted from 0
abbrev pub dimension_at : Dims → ℕ → NamedDimension
dimension_at s d = slice_index_or s.dimensions d no_dimension

abbrev pub measure_at : Dims → ℕ → NamedMeasure
measure_at s m = slice_index_or s.measures m no_measure

-- the number of a name among names
abbrev pub found : List ℕ → List (List ℕ) → Option ℕ
found x names = position (bytes_eq x) names

-- each name stands once
abbrev pub AreDistinct : List (List ℕ) → Type 0
AreDistinct names = distinct names ≡ names

-- the rules on a dimension: 1 to 5 named levels, a path per leaf with a member at each level, at most 65,536 distinct
-- leaves, and one parent for each member
pub record IsDimension (d : NamedDimension) : Type 0 where
  pub name : is_name d.name ≡ true
  pub column : is_name d.column ≡ true
  pub has_levels : 1 ≤ length d.levels
  pub few_levels : length d.levels ≤ 5
  pub level_names : list_all is_level_name d.levels ≡ true
  pub distinct_levels : AreDistinct d.levels
  pub has_leaves : 1 ≤ length d.paths
  pub few_leaves : length d.paths ≤ 65536
  pub even : list_all (λ path. length path == length d.levels) d.paths ≡ true
  pub member_names : list_all (λ path. list_all is_name path) d.paths ≡ true
  pub distinct_leaves : AreDistinct (names_at (plain d) 0)
  pub one_parent : IsHierarchy (plain d)

-- the rules on a measure
pub record IsMeasure (m : NamedMeasure) : Type 0 where
  pub name : is_measure_name m.name ≡ true
  pub column : is_name m.column ≡ true
  pub few_decimals : m.decimals ≤ 6

-- the rules on dimensions and measures together: 1 to 8 dimensions, 1 to 16 measures, at most 256 cuboids, and each
-- name and column once
pub record IsDims (s : Dims) : Type 0 where
  pub each_dimension : AllByRecursion IsDimension s.dimensions
  pub each_measure : AllByRecursion IsMeasure s.measures
  pub has_dimensions : 1 ≤ length s.dimensions
  pub few_dimensions : length s.dimensions ≤ 8
  pub has_measures : 1 ≤ length s.measures
  pub few_measures : length s.measures ≤ 16
  pub few_cuboids : cuboid_count (plains s) ≤ 256
  pub distinct_dimensions : AreDistinct (dimension_names s)
  pub distinct_measures : AreDistinct (measure_names s)
  pub distinct_columns : AreDistinct (column_names s)

-- names numbered by their first appearance: each name once, in the place of its number; the number of each of the names;
-- and for each number where its name first stands
pub record AreNumbered (names kept : List (List ℕ)) (numbers firsts : List ℕ) : Type 0 where
  pub once : kept ≡ distinct names
  pub by_number : numbers ≡ map (λ x. place_of x (distinct names)) names
  pub by_place : firsts ≡ map (λ x. place_of x names) (distinct names)
