-- What a groups file says: the faults of its table in their order, and its groups where there is none.
use Rattle.std.specs.Prelude.{ℕ, ◌+◌, not, nat_lt, List, [], ◌++◌, length, map, codes, Option, Some, None, Result, Err}
use Rattle.std.specs.List.{list_any}
use Rattle.std.specs.Str.{bytes_eq}
use Rattle.toml.specs.Data.{Data, Members, as_str}
use Rattle.cube_model.specs.Checks.{check, in_turn, unless}
use Rattle.cube_tables.specs.Kinds as kinds
use Rattle.cube_tables.specs.Tables.{toml_of, under, as_tables, value_or, items_at, table_in, entry_of, key_of}
use Rattle.cube_model.specs.Names.{is_group_name}
use Rattle.cube_groups.specs.declared.fault.GroupsFault.{GroupsFault}
use Rattle.cube_groups.specs.declared.fault.GroupsFault.TheVariants as fault
use Rattle.cube_groups.specs.declared.group.GroupFile.{GroupFile}

-- ---- values

abbrev pub tables_of : Option Data → List Members
tables_of value = map table_in (items_at value)

-- what the table of a group says: the group's name, and the name of its policy's file
abbrev pub group_in : Option Data → Option Data → GroupFile
group_in name policy = record { name = value_or [] as_str name; policy = value_or [] as_str policy }

unfoldable pub group_of : Members → GroupFile
group_of table = group_in (under (codes "name") table) (under (codes "policy") table)

abbrev pub groups_in : Members → List GroupFile
groups_in table = map group_of (tables_of (under (codes "group") table))

-- ---- the table of a group

abbrev pub text_faults : List ℕ → Option Data → List GroupsFault
text_faults key value = kinds.required_faults fault.Missing fault.WrongKind as_str key value

abbrev pub group_kinds : List ℕ → Option Data → Option Data → List GroupsFault
group_kinds entry name policy =
    text_faults (key_of entry (codes "name")) name
    ++ text_faults (key_of entry (codes "policy")) policy

-- the name has to be that of a group, and none of the earlier groups may have it
abbrev pub name_faults : List ℕ → List GroupFile → List ℕ → List GroupsFault
name_faults entry earlier name =
    check (not (is_group_name name)) (fault.BadName (key_of entry (codes "name")))
    ++ check (list_any (λ g. bytes_eq name g.name) earlier) (fault.NameTwice (key_of entry (codes "name")))

abbrev pub group_faults_at : List ℕ → List GroupFile → Members → List GroupsFault
group_faults_at entry earlier table =
    group_kinds entry (under (codes "name") table) (under (codes "policy") table)
    ++ name_faults entry earlier (value_or [] as_str (under (codes "name") table))

-- the faults of a group's table, where these groups stand before it
unfoldable pub group_faults : List GroupFile → Members → List GroupsFault
group_faults earlier table = group_faults_at (entry_of (codes "group") (length earlier + 1)) earlier table

-- ---- the file

-- some tables, at most 16
abbrev pub list_faults : Option Data → List GroupsFault
list_faults value =
    kinds.list_faults fault.Missing fault.WrongKind as_tables (codes "group") value
    ++ check (nat_lt 16 (length (tables_of value))) (fault.Limit 16)

-- the faults of the tables in turn
abbrev pub tables_faults : List Members → List GroupsFault
tables_faults tables = in_turn (λ before table. group_faults (map group_of before) table) [] tables

-- the faults of a groups file in their order
abbrev pub groups_faults : Members → List GroupsFault
groups_faults table =
    list_faults (under (codes "group") table)
    ++ tables_faults (tables_of (under (codes "group") table))

abbrev pub groups_said : Option Members → Result (List GroupFile) GroupsFault
groups_said None = Err fault.NotToml
groups_said (Some table) = unless (groups_faults table) (groups_in table)

-- what the bytes of a groups file say, or their first fault
unfoldable pub groups_of : List ℕ → Result (List GroupFile) GroupsFault
groups_of bytes = groups_said (toml_of bytes)
