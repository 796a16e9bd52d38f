use Rattle.std.proofs.Common.{◌≡◌, ◌++◌, map, drop, option_map}
use Rattle.toml.specs.View.{view}
use Rattle.cube_tables.specs.Tables.{all_as, as_texts}
use Rattle.cube_tables.proofs.values.lists_in.Given as goal

abbrev pub invariant-loop-item : goal.invariant-loop-item
invariant-loop-item l = all_as as_texts (map view l.items) ≡ option_map (λ rest. l.lists ++ rest) (all_as as_texts (map view (drop l.item-index l.items)))
