use Rattle.std.proofs.Common.{◌≡◌, ◌++◌, map}
use Rattle.toml.specs.View.{members_view}
use Rattle.cube_tables.specs.Tables.{members_list}
use Rattle.cube_tables.specs.Members.{named}
use Rattle.cube_tables.proofs.members.members_of.Given as goal

abbrev pub invariant-members : goal.invariant-members
invariant-members l = map named l.members.items ++ members_list (members_view l.key-iterator) ≡ members_list (members_view l.table.entries)
