-- What a policy file says: the faults of its table in their order, and its value where there is none.
use Rattle.std.specs.Prelude.{ℕ, ◌+◌, Bool, true, false, not, ◌&&◌, ◌==◌, nat_lt, nat_le, List, [], ◌∷◌, ◌++◌, length, map, filter, find, codes, slice_index_or, if◌then◌else◌, Option, Some, None, is_none, option_map, option_and_then, unwrap_or, Result, Err, ℤ, pos, negsuc}
use Rattle.std.specs.List.{list_all, list_any, filter_map}
use Rattle.std.specs.Str.{bytes_eq}
use Rattle.toml.specs.Data.{Data, Members, as_str, as_integer, as_table}
use Rattle.cube_model.specs.Checks.{check, in_turn, unless}
use Rattle.cube_model.specs.Cubes.{count_from}
use Rattle.cube_model.specs.Dims.{NamedDimension, Dims, members, found, dimension_at, dimension_names, measure_names}
use Rattle.cube_model.specs.declared.limit.LimitKind.TheVariants as limit
use Rattle.cube_model.specs.declared.policy.Method.{Method}
use Rattle.cube_model.specs.declared.policy.Method.TheVariants.{Plain, Lattice, Parity}
use Rattle.cube_model.specs.declared.policy.Object.{Object}
use Rattle.cube_model.specs.declared.policy.Policy.{Policy}
use Rattle.cube_model.specs.declared.policy.Within.{Within}
use Rattle.cube_tables.specs.Kinds as kinds
use Rattle.cube_tables.specs.Tables.{toml_of, under, members_list, as_named, as_texts, as_tables, value_or, items_at, table_in, entry_of, key_of, item_of}
use Rattle.cube_policy.specs.declared.fault.PolicyFault.{PolicyFault}
use Rattle.cube_policy.specs.declared.fault.PolicyFault.TheVariants as fault
use Rattle.cube_policy.specs.declared.measure.Declared.{Declared}

-- ---- values

abbrev pub tables_of : Option Data → List Members
tables_of value = map table_in (items_at value)

-- the number of a name among names
abbrev pub number : List ℕ → List (List ℕ) → ℕ
number x names = unwrap_or (found x names) 0

-- the method of a word
abbrev pub method_of : List ℕ → Option Method
method_of word =
    if bytes_eq word (codes "open") then Some Plain
    else if bytes_eq word (codes "lattice") then Some Lattice
    else if bytes_eq word (codes "parity") then Some Parity
    else None

-- what the table of a measure says: the measure's name, and how it is controlled
abbrev pub declared_in : Option Data → Option Data → Declared
declared_in name method = record {
  name = value_or [] as_str name;
  method = unwrap_or (method_of (value_or [] as_str method)) Plain;
}

unfoldable pub declared_of : Members → Declared
declared_of table = declared_in (under (codes "name") table) (under (codes "method") table)

-- the method that is declared of a measure
abbrev pub stated : List Declared → List ℕ → Option Method
stated declared name = option_map (λ d. d.method) (find (λ d. bytes_eq name d.name) declared)

abbrev pub methods_of : List Declared → List (List ℕ) → List Method
methods_of declared names = map (λ x. unwrap_or (stated declared x) Plain) names

-- the number of a level of a dimension, `all` standing above the named ones
abbrev pub level_in : NamedDimension → List ℕ → Option ℕ
level_in d name = if bytes_eq name (codes "all") then Some (length d.levels) else found name d.levels

-- the same for a dimension that is named
abbrev pub level_named : Dims → List ℕ → List ℕ → Option ℕ
level_named s dimension name = option_and_then (λ i. level_in (dimension_at s i) name) (found dimension (dimension_names s))

-- the level that is named of a dimension, or else `all`
abbrev pub level_below : List (List ℕ × List ℕ) → NamedDimension → ℕ
level_below below d = unwrap_or (option_and_then (λ e. level_in d e.1) (find (λ e. bytes_eq d.name e.0) below)) (length d.levels)

abbrev pub levels_of : Dims → List (List ℕ × List ℕ) → List ℕ
levels_of s below = map (level_below below) s.dimensions

-- the numbers below n that are listed, in order and each once
abbrev pub rising : ℕ → List ℕ → List ℕ
rising n listed = filter (λ x. list_any (λ y. y == x) listed) (count_from 0 n)

-- what a slice lists of a level of a dimension
abbrev pub within_in : ℕ → NamedDimension → List ℕ → List (List ℕ) → Within
within_in i d level names = record {
  dimension = i;
  level = number level d.levels;
  members = rising (length (members d (number level d.levels))) (map (λ x. number x (members d (number level d.levels))) names);
}

-- the level and the members that the table of a dimension in a slice names
abbrev pub level_text : Members → List ℕ
level_text table = value_or [] as_str (under (codes "level") table)

abbrev pub member_texts : Members → List (List ℕ)
member_texts table = value_or [] as_texts (under (codes "members") table)

unfoldable pub within_of : Dims → List ℕ × Members → Within
within_of s e = within_in (number e.0 (dimension_names s)) (dimension_at s (number e.0 (dimension_names s))) (level_text e.1) (member_texts e.1)

-- what is listed, in the order of the dimensions
abbrev pub by_dimension : ℕ → List Within → List Within
by_dimension n listed = filter_map (λ i. find (λ w. w.dimension == i) listed) (count_from 0 n)

-- what an object names under `below` and under `slice`
abbrev pub below_in : Option Data → List (List ℕ × List ℕ)
below_in value = value_or [] (as_named as_str) value

abbrev pub slice_in : Option Data → List (List ℕ × Members)
slice_in value = value_or [] (as_named as_table) value

abbrev pub measure_number : Dims → Option Data → ℕ
measure_number s value = number (value_or [] as_str value) (measure_names s)

-- the number of facts that a number is: 2 to 1,000
abbrev pub fewer_of : ℤ → Option ℕ
fewer_of (pos n) = if nat_le 2 n && nat_le n 1000 then Some n else None
fewer_of (negsuc n) = None

-- the number of facts that an object names, if any
abbrev pub fewer_in : Option Data → Option ℕ
fewer_in value = option_and_then fewer_of (option_and_then as_integer value)

abbrev pub object_in : Dims → Option Data → Option Data → Option Data → Option Data → Object
object_in s measure below slice fewer = record {
  measure = measure_number s measure;
  levels = levels_of s (below_in below);
  slice = by_dimension (length s.dimensions) (map (within_of s) (slice_in slice));
  fewer = fewer_in fewer;
}

unfoldable pub object_of : Dims → Members → Object
object_of s table = object_in s (under (codes "measure") table) (under (codes "below") table) (under (codes "slice") table) (under (codes "fewer") table)

abbrev pub declared_measures : Members → List Declared
declared_measures table = map declared_of (tables_of (under (codes "measure") table))

abbrev pub policy_in : Dims → Members → Policy
policy_in s table = record {
  methods = methods_of (declared_measures table) (measure_names s);
  objects = map (object_of s) (tables_of (under (codes "object") table));
}

-- ---- faults of kind

abbrev pub text_faults : List ℕ → Option Data → List PolicyFault
text_faults key value = kinds.required_faults fault.Missing fault.WrongKind as_str key value

abbrev pub list_faults : {X : Type 0} → (Data → Option X) → List ℕ → Option Data → List PolicyFault
list_faults kind key value = kinds.list_faults fault.Missing fault.WrongKind kind key value

abbrev pub required_faults : {X : Type 0} → (Data → Option X) → List ℕ → Option Data → List PolicyFault
required_faults kind key value = kinds.required_faults fault.Missing fault.WrongKind kind key value

abbrev pub optional_faults : {X : Type 0} → (Data → Option X) → List ℕ → Option Data → List PolicyFault
optional_faults kind key value = kinds.optional_faults fault.WrongKind kind key value

-- ---- keys that are none of the known ones, in the order of their bytes

-- the key of a value in a table, or in the file itself, which has no key
abbrev pub key_in : List ℕ → List ℕ → List ℕ
key_in [] key = key
key_in (b ∷ bs) key = key_of (b ∷ bs) key

abbrev pub unknown_key : List ℕ → List (List ℕ) → List (List ℕ × Data) → List ℕ × Data → List PolicyFault
unknown_key entry known before e = check (not (list_any (bytes_eq e.0) known)) (fault.Unknown (key_in entry e.0))

abbrev pub unknown_keys : List ℕ → List (List ℕ) → Members → List PolicyFault
unknown_keys entry known table = in_turn (unknown_key entry known) [] (members_list table)

abbrev pub file_keys : List (List ℕ)
file_keys = codes "measure" ∷ codes "object" ∷ []

abbrev pub measure_keys : List (List ℕ)
measure_keys = codes "name" ∷ codes "method" ∷ []

abbrev pub object_keys : List (List ℕ)
object_keys = codes "measure" ∷ codes "below" ∷ codes "slice" ∷ codes "fewer" ∷ []

abbrev pub within_keys : List (List ℕ)
within_keys = codes "level" ∷ codes "members" ∷ []

-- ---- the table of a measure

abbrev pub measure_kinds : List ℕ → Option Data → Option Data → List PolicyFault
measure_kinds entry name method =
    text_faults (key_of entry (codes "name")) name
    ++ text_faults (key_of entry (codes "method")) method

-- the name and the method have to be known, and no earlier table may have the name
abbrev pub measure_named : Dims → List ℕ → List Declared → List ℕ → List ℕ → List PolicyFault
measure_named s entry earlier name method =
    check (is_none (found name (measure_names s))) (fault.Unknown (key_of entry (codes "name")))
    ++ check (is_none (method_of method)) (fault.Unknown (key_of entry (codes "method")))
    ++ check (list_any (λ e. bytes_eq name e.name) earlier) (fault.MeasureTwice (key_of entry (codes "name")))

abbrev pub measure_faults_at : Dims → List ℕ → List Declared → Members → List PolicyFault
measure_faults_at s entry earlier table =
    unknown_keys entry measure_keys table
    ++ measure_kinds entry (under (codes "name") table) (under (codes "method") table)
    ++ measure_named s entry earlier (value_or [] as_str (under (codes "name") table)) (value_or [] as_str (under (codes "method") table))

unfoldable pub measure_faults : Dims → List Declared → Members → List PolicyFault
measure_faults s earlier table = measure_faults_at s (entry_of (codes "measure") (length earlier + 1)) earlier table

-- each measure has to have a method
abbrev pub unnamed : List Declared → List (List ℕ) → List ℕ → List PolicyFault
unnamed declared before x = check (is_none (stated declared x)) (fault.Missing x)

-- ---- the table of an object

abbrev pub object_measure_faults : Dims → List ℕ → Option Data → List PolicyFault
object_measure_faults s key value =
    text_faults key value
    ++ check (is_none (found (value_or [] as_str value) (measure_names s))) (fault.Unknown key)

-- a dimension and one of its levels
abbrev pub unknown_level : Dims → List ℕ → List (List ℕ × List ℕ) → List ℕ × List ℕ → List PolicyFault
unknown_level s entry before e = check (is_none (level_named s e.0 e.1)) (fault.Unknown (key_of entry e.0))

abbrev pub below_faults : Dims → List ℕ → Option Data → List PolicyFault
below_faults s entry value =
    required_faults (as_named as_str) entry value
    ++ in_turn (unknown_level s entry) [] (below_in value)

abbrev pub unknown_member : List ℕ → List (List ℕ) → List (List ℕ) → List ℕ → List PolicyFault
unknown_member entry known before x = check (is_none (found x known)) (fault.Unknown (item_of entry (codes "members") (length before + 1)))

-- the table of a dimension in a slice
abbrev pub level_faults : NamedDimension → List ℕ → Option Data → List PolicyFault
level_faults d key value =
    text_faults key value
    ++ check (is_none (found (value_or [] as_str value) d.levels)) (fault.Unknown key)

abbrev pub members_faults : List (List ℕ) → List ℕ → Option Data → List PolicyFault
members_faults known entry value =
    list_faults as_texts (key_of entry (codes "members")) value
    ++ in_turn (unknown_member entry known) [] (value_or [] as_texts value)

abbrev pub listed_faults : NamedDimension → List ℕ → Members → List PolicyFault
listed_faults d entry table =
    unknown_keys entry within_keys table
    ++ level_faults d (key_of entry (codes "level")) (under (codes "level") table)
    ++ members_faults (members d (number (level_text table) d.levels)) entry (under (codes "members") table)

unfoldable pub within_faults : Dims → List ℕ → List ℕ × Members → List PolicyFault
within_faults s entry e =
    check (is_none (found e.0 (dimension_names s))) (fault.Unknown (key_of entry e.0))
    ++ listed_faults (dimension_at s (number e.0 (dimension_names s))) (key_of entry e.0) e.1

abbrev pub slice_faults : Dims → List ℕ → Option Data → List PolicyFault
slice_faults s entry value =
    optional_faults (as_named as_table) entry value
    ++ in_turn (λ before e. within_faults s entry e) [] (slice_in value)

-- a number of facts has to be 2 to 1,000 where it is stated
abbrev pub out_of_range : List ℕ → Option ℤ → List PolicyFault
out_of_range key None = []
out_of_range key (Some n) = check (is_none (fewer_of n)) (fault.OutOfRange key 1000)

abbrev pub fewer_faults : List ℕ → Option Data → List PolicyFault
fewer_faults key value =
    optional_faults as_integer key value
    ++ out_of_range key (option_and_then as_integer value)

-- no object goes on a measure of this method at these levels: one of the parity rule is protected at the finest levels alone
abbrev pub is_misplaced : Method → List ℕ → Bool
is_misplaced Plain levels = true
is_misplaced Lattice levels = false
is_misplaced Parity levels = not (list_all (λ l. l == 0) levels)

abbrev pub place_faults : List Method → List ℕ → ℕ → List ℕ → List PolicyFault
place_faults methods entry measure levels = check (is_misplaced (slice_index_or methods measure Plain) levels) (fault.ObjectOnMethod entry)

unfoldable pub object_faults : Dims → List Method → List ℕ → Members → List PolicyFault
object_faults s methods entry table =
    unknown_keys entry object_keys table
    ++ object_measure_faults s (key_of entry (codes "measure")) (under (codes "measure") table)
    ++ below_faults s (key_of entry (codes "below")) (under (codes "below") table)
    ++ slice_faults s (key_of entry (codes "slice")) (under (codes "slice") table)
    ++ fewer_faults (key_of entry (codes "fewer")) (under (codes "fewer") table)
    ++ place_faults methods entry (measure_number s (under (codes "measure") table)) (levels_of s (below_in (under (codes "below") table)))

-- ---- the file

abbrev pub measures_faults : Dims → List Members → List PolicyFault
measures_faults s tables = in_turn (λ before table. measure_faults s (map declared_of before) table) [] tables

abbrev pub objects_faults : Dims → List Method → List Members → List PolicyFault
objects_faults s methods tables = in_turn (λ before table. object_faults s methods (entry_of (codes "object") (length before + 1)) table) [] tables

-- the list of objects, at most 64
abbrev pub objects_kinds : Option Data → List PolicyFault
objects_kinds value =
    optional_faults as_tables (codes "object") value
    ++ check (nat_lt 64 (length (tables_of value))) (fault.Limit limit.Objects 64)

-- the tables of the measures, and that each measure has one
abbrev pub methods_faults : Dims → Members → List PolicyFault
methods_faults s table =
    measures_faults s (tables_of (under (codes "measure") table))
    ++ in_turn (unnamed (declared_measures table)) [] (measure_names s)

-- the faults of a policy file in their order
abbrev pub policy_faults : Dims → Members → List PolicyFault
policy_faults s table =
    unknown_keys [] file_keys table
    ++ list_faults as_tables (codes "measure") (under (codes "measure") table)
    ++ objects_kinds (under (codes "object") table)
    ++ methods_faults s table
    ++ objects_faults s (policy_in s table).methods (tables_of (under (codes "object") table))

abbrev pub policy_said : Dims → Option Members → Result Policy PolicyFault
policy_said s None = Err fault.NotToml
policy_said s (Some table) = unless (policy_faults s table) (policy_in s table)

-- what the bytes of a policy file say, or their first fault
unfoldable pub policy_of : Dims → List ℕ → Result Policy PolicyFault
policy_of s bytes = policy_said s (toml_of bytes)
