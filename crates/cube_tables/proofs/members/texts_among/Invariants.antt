use Rattle.std.proofs.Common.{◌≡◌, ◌++◌, map, drop, option_map}
use Rattle.toml.specs.Data.{as_str}
use Rattle.cube_tables.specs.Tables.{all_named}
use Rattle.cube_tables.specs.Members.{named}
use Rattle.cube_tables.proofs.members.texts_among.Given as goal

abbrev pub invariant-loop-member : goal.invariant-loop-member
invariant-loop-member l = all_named as_str (map named l.members) ≡ option_map (λ rest. l.texts ++ rest) (all_named as_str (map named (drop l.member-index l.members)))
