use Rattle.std.proofs.Common.{map, sym, ◌∙◌}
use Rattle.toml.specs.Data.{as_table}
use Rattle.toml.specs.View.{view}
use Rattle.cube_tables.proofs.Items.{items_list-items_of, is_some-all_as}
use Rattle.cube_tables.proofs.values.is_tables.Goals as goal

pub returns-in-Some : goal.returns-in-Some
returns-in-Some c =
    let found = rw c.in-Some.is at c.as_array.ensures in
    let tested = rw c.as_slice.ensures.value at c.are_tables.ensures in
    rw (← found, items_list-items_of (map view c.in-Some.items.now.items)) (tested ∙ sym (is_some-all_as as_table view c.in-Some.items.now.items))
