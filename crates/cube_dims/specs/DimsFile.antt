-- What a dimension file says: the faults of its table in their order, and its value where there is none.
use Rattle.std.specs.Prelude.{◌≡◌, ℕ, ◌+◌, ◌<◌, Bool, false, not, ◌&&◌, ◌||◌, ◌==◌, nat_lt, nat_le, List, [], ◌∷◌, ◌++◌, length, map, codes, slice_index_or, Option, Some, None, is_none, Result, Err, if◌then◌else◌, unwrap_or, ℤ, pos, negsuc}
use Rattle.std.specs.List.{list_all, list_any}
use Rattle.std.specs.Str.{bytes_eq}
use Rattle.toml.specs.Data.{Data, Members, as_str, as_integer}
use Rattle.cube_model.specs.Checks.{check, in_turn, unless}
use Rattle.cube_model.specs.Names.{is_name, is_level_name, is_measure_name}
use Rattle.cube_model.specs.Cubes.{cuboid_count}
use Rattle.cube_model.specs.Dims.{NamedDimension, NamedMeasure, Dims, plains}
use Rattle.cube_model.specs.declared.limit.LimitKind.{LimitKind}
use Rattle.cube_model.specs.declared.limit.LimitKind.TheVariants as limit
use Rattle.cube_tables.specs.Kinds as kinds
use Rattle.cube_tables.specs.Tables.{toml_of, under, as_list, as_texts, as_tables, value_or, items_at, table_in, entry_of, key_of, item_of}
use Rattle.cube_dims.specs.declared.fault.DimsFault.{DimsFault}
use Rattle.cube_dims.specs.declared.fault.DimsFault.TheVariants as fault

-- ---- values

-- a dimension; its column is by default the name of the finest level
abbrev pub dimension_in : Option Data → Option Data → Option Data → Option Data → NamedDimension
dimension_in name column levels paths = record {
  name = value_or [] as_str name;
  column = value_or (slice_index_or (value_or [] as_texts levels) 0 []) as_str column;
  levels = value_or [] as_texts levels;
  paths = value_or [] (as_list as_texts) paths;
}

unfoldable pub dimension_of : Members → NamedDimension
dimension_of table = dimension_in (under (codes "name") table) (under (codes "column") table) (under (codes "levels") table) (under (codes "paths") table)

-- the decimals that a number is: 0 to 6
abbrev pub decimals_of : ℤ → Option ℕ
decimals_of (pos n) = if nat_le n 6 then Some n else None
decimals_of (negsuc n) = None

-- what is stated of the decimals, by default 0
abbrev pub decimals_in : Option Data → Option ℕ
decimals_in value = decimals_of (value_or (pos 0) as_integer value)

-- a measure; its column is by default its name
abbrev pub measure_in : Option Data → Option Data → Option Data → NamedMeasure
measure_in name column decimals = record {
  name = value_or [] as_str name;
  column = value_or (value_or [] as_str name) as_str column;
  decimals = unwrap_or (decimals_in decimals) 0;
}

unfoldable pub measure_of : Members → NamedMeasure
measure_of table = measure_in (under (codes "name") table) (under (codes "column") table) (under (codes "decimals") table)

abbrev pub tables_of : Option Data → List Members
tables_of value = map table_in (items_at value)

abbrev pub dims_in : Members → Dims
dims_in table = record {
  dimensions = map dimension_of (tables_of (under (codes "dimension") table));
  measures = map measure_of (tables_of (under (codes "measure") table));
}

-- ---- faults of kind: the value has to be there and of the kind, or of the kind where it is there

abbrev pub text_faults : List ℕ → Option Data → List DimsFault
text_faults key value = kinds.required_faults fault.Missing fault.WrongKind as_str key value

abbrev pub list_faults : {X : Type 0} → (Data → Option X) → List ℕ → Option Data → List DimsFault
list_faults kind key value = kinds.list_faults fault.Missing fault.WrongKind kind key value

abbrev pub optional_faults : {X : Type 0} → (Data → Option X) → List ℕ → Option Data → List DimsFault
optional_faults kind key value = kinds.optional_faults fault.WrongKind kind key value

-- a list of tables, at most so many
abbrev pub tables_faults : LimitKind → ℕ → List ℕ → Option Data → List DimsFault
tables_faults which most key value =
    list_faults as_tables key value
    ++ check (nat_lt most (length (tables_of value))) (fault.Limit which most)

-- ---- a dimension

abbrev pub dimension_kinds : List ℕ → Option Data → Option Data → Option Data → Option Data → List DimsFault
dimension_kinds entry name column levels paths =
    text_faults (key_of entry (codes "name")) name
    ++ optional_faults as_str (key_of entry (codes "column")) column
    ++ list_faults as_texts (key_of entry (codes "levels")) levels
    ++ list_faults (as_list as_texts) (key_of entry (codes "paths")) paths

-- the text is one of these
abbrev pub stands_in : List ℕ → List (List ℕ) → Bool
stands_in x xs = list_any (bytes_eq x) xs

abbrev pub bad_level : List ℕ → List (List ℕ) → List ℕ → List DimsFault
bad_level entry before x = check (not (is_level_name x)) (fault.BadName (item_of entry (codes "levels") (length before + 1)))

abbrev pub level_twice : List ℕ → List (List ℕ) → List ℕ → List DimsFault
level_twice entry before x = check (stands_in x before) (fault.NameTwice (item_of entry (codes "levels") (length before + 1)))

-- its name, its column and its levels have to be names
abbrev pub bad_names : List ℕ → NamedDimension → List DimsFault
bad_names entry d =
    check (not (is_name d.name)) (fault.BadName (key_of entry (codes "name")))
    ++ check (not (is_name d.column)) (fault.BadName (key_of entry (codes "column")))
    ++ in_turn (bad_level entry) [] d.levels

-- none of them may be taken, where these dimensions stand before it
abbrev pub names_twice : List ℕ → List NamedDimension → NamedDimension → List DimsFault
names_twice entry earlier d =
    check (list_any (λ e. bytes_eq d.name e.name) earlier) (fault.NameTwice (key_of entry (codes "name")))
    ++ check (list_any (λ e. bytes_eq d.column e.column) earlier) (fault.NameTwice (key_of entry (codes "column")))
    ++ in_turn (level_twice entry) [] d.levels

-- how many levels and leaves it has
abbrev pub size_faults : NamedDimension → List DimsFault
size_faults d =
    check (nat_lt 5 (length d.levels)) (fault.Limit limit.Levels 5)
    ++ check (nat_lt 65536 (length d.paths)) (fault.Limit limit.Leaves 65536)

-- at some level the paths have one member, and at the next they have two
abbrev pub parts_ways : List (List ℕ) → List (List ℕ) → Bool
parts_ways (x ∷ above ∷ more) (y ∷ other ∷ rest) = (bytes_eq x y && not (bytes_eq above other)) || parts_ways (above ∷ more) (other ∷ rest)
parts_ways _ _ = false

abbrev pub leaf : List (List ℕ) → List ℕ
leaf path = slice_index_or path 0 []

-- a path, where these paths stand before it
abbrev pub path_faults : List ℕ → ℕ → List (List (List ℕ)) → List (List ℕ) → List DimsFault
path_faults entry levels before path =
    check (not (length path == levels)) (fault.Uneven (item_of entry (codes "paths") (length before + 1)))
    ++ check (not (list_all is_name path)) (fault.BadName (item_of entry (codes "paths") (length before + 1)))
    ++ check (stands_in (leaf path) (map leaf before)) (fault.LeafTwice (item_of entry (codes "paths") (length before + 1)))
    ++ check (list_any (parts_ways path) before) (fault.TwoParents (item_of entry (codes "paths") (length before + 1)))

-- each of the paths has so many names, and none parts ways with an earlier one
pub record AreHierarchy (levels : ℕ) (paths : List (List (List ℕ))) : Type 0 where
  pub even : (k : ℕ) → k < length paths → length (slice_index_or paths k []) ≡ levels
  pub agree : (j k : ℕ) → j < k → k < length paths → parts_ways (slice_index_or paths k []) (slice_index_or paths j []) ≡ false

-- the names, the size and the paths of a dimension
unfoldable pub named_faults : List ℕ → List NamedDimension → NamedDimension → List DimsFault
named_faults entry earlier d = bad_names entry d ++ names_twice entry earlier d ++ size_faults d ++ in_turn (path_faults entry (length d.levels)) [] d.paths

-- the faults of a dimension's table, where these dimensions stand before it
unfoldable pub dimension_faults : List NamedDimension → Members → List DimsFault
dimension_faults earlier table =
    dimension_kinds (entry_of (codes "dimension") (length earlier + 1)) (under (codes "name") table) (under (codes "column") table) (under (codes "levels") table) (under (codes "paths") table)
    ++ named_faults (entry_of (codes "dimension") (length earlier + 1)) earlier (dimension_of table)

-- ---- a measure

abbrev pub measure_kinds : List ℕ → Option Data → Option Data → Option Data → List DimsFault
measure_kinds entry name column decimals =
    text_faults (key_of entry (codes "name")) name
    ++ optional_faults as_str (key_of entry (codes "column")) column
    ++ optional_faults as_integer (key_of entry (codes "decimals")) decimals

-- its name and its column have to be names
abbrev pub bad_measure_names : List ℕ → List ℕ → List ℕ → List DimsFault
bad_measure_names entry name column =
    check (not (is_measure_name name)) (fault.BadName (key_of entry (codes "name")))
    ++ check (not (is_name column)) (fault.BadName (key_of entry (codes "column")))

-- neither may be taken, where these dimensions and measures stand before it
abbrev pub measure_names_twice : List ℕ → List NamedDimension → List NamedMeasure → List ℕ → List ℕ → List DimsFault
measure_names_twice entry dimensions earlier name column =
    check (list_any (λ e. bytes_eq name e.name) earlier) (fault.NameTwice (key_of entry (codes "name")))
    ++ check (list_any (λ d. bytes_eq column d.column) dimensions || list_any (λ e. bytes_eq column e.column) earlier) (fault.NameTwice (key_of entry (codes "column")))

abbrev pub measure_naming : List ℕ → List NamedDimension → List NamedMeasure → List ℕ → List ℕ → List DimsFault
measure_naming entry dimensions earlier name column = bad_measure_names entry name column ++ measure_names_twice entry dimensions earlier name column

-- the faults of a measure's table
unfoldable pub measure_faults : List NamedDimension → List NamedMeasure → Members → List DimsFault
measure_faults dimensions earlier table =
    measure_kinds (entry_of (codes "measure") (length earlier + 1)) (under (codes "name") table) (under (codes "column") table) (under (codes "decimals") table)
    ++ measure_naming (entry_of (codes "measure") (length earlier + 1)) dimensions earlier (measure_of table).name (measure_of table).column
    ++ check (is_none (decimals_in (under (codes "decimals") table))) (fault.Limit limit.Decimals 6)

-- ---- the file

-- the faults of the tables in turn
abbrev pub dimensions_faults : List Members → List DimsFault
dimensions_faults tables = in_turn (λ before table. dimension_faults (map dimension_of before) table) [] tables

abbrev pub measures_faults : List NamedDimension → List Members → List DimsFault
measures_faults dimensions tables = in_turn (λ before table. measure_faults dimensions (map measure_of before) table) [] tables

-- the faults of a dimension file in their order
abbrev pub dims_faults : Members → List DimsFault
dims_faults table =
    tables_faults limit.Dimensions 8 (codes "dimension") (under (codes "dimension") table)
    ++ tables_faults limit.Measures 16 (codes "measure") (under (codes "measure") table)
    ++ dimensions_faults (tables_of (under (codes "dimension") table))
    ++ check (nat_lt 256 (cuboid_count (plains (dims_in table)))) (fault.Limit limit.Cuboids 256)
    ++ measures_faults (dims_in table).dimensions (tables_of (under (codes "measure") table))

abbrev pub dims_said : Option Members → Result Dims DimsFault
dims_said None = Err fault.NotToml
dims_said (Some table) = unless (dims_faults table) (dims_in table)

-- what the bytes of a dimension file say, or their first fault
unfoldable pub dims_of : List ℕ → Result Dims DimsFault
dims_of bytes = dims_said (toml_of bytes)
