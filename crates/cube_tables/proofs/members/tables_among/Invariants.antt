use Rattle.std.proofs.Common.{◌≡◌, ◌++◌, map, drop, option_map}
use Rattle.toml.specs.Data.{as_table}
use Rattle.cube_tables.specs.Tables.{all_named}
use Rattle.cube_tables.specs.Members.{named, named_table}
use Rattle.cube_tables.proofs.members.tables_among.Given as goal

abbrev pub invariant-loop-member : goal.invariant-loop-member
invariant-loop-member l = all_named as_table (map named l.members) ≡ option_map (λ rest. map named_table l.tables.items ++ rest) (all_named as_table (map named (drop l.member-index l.members)))
