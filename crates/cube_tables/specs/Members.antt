-- What a member of a table says.
use Rattle.std.specs.Prelude.{ℕ, List}
use Rattle.toml.specs.Data.{Data, Members}
use Rattle.toml.specs.View.{view, table_view}
use Rattle.cube_tables.specs.declared.members.Member.{Member}
use Rattle.cube_tables.specs.declared.members.NamedTable.{NamedTable}

-- its key and its value
abbrev pub named : Member → List ℕ × Data
named m = (m.key.now, view m.value.now)

abbrev pub named_table : NamedTable → List ℕ × Members
named_table t = (t.key.now, table_view t.table.now)
