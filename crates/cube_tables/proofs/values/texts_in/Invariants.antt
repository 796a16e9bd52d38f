use Rattle.std.proofs.Common.{◌≡◌, ◌++◌, map, drop, option_map}
use Rattle.toml.specs.Data.{as_str}
use Rattle.toml.specs.View.{view}
use Rattle.cube_tables.specs.Tables.{all_as}
use Rattle.cube_tables.proofs.values.texts_in.Given as goal

abbrev pub invariant-loop-item : goal.invariant-loop-item
invariant-loop-item l = all_as as_str (map view l.items) ≡ option_map (λ rest. l.texts ++ rest) (all_as as_str (map view (drop l.item-index l.items)))
