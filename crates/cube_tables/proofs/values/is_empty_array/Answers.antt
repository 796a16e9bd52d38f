use Rattle.std.proofs.Common.{map}
use Rattle.std.proofs.lemmas.List.{length-map}
use Rattle.toml.specs.View.{view}
use Rattle.cube_tables.proofs.Items.{items_list-items_of}
use Rattle.cube_tables.proofs.values.is_empty_array.Goals as goal

pub returns-in-Some : goal.returns-in-Some
returns-in-Some c =
    let found = rw c.in-Some.is at c.as_array.ensures in
    rw (← found, items_list-items_of (map view c.in-Some.items.now.items), length-map c.in-Some.items.now.items view, ← c.as_slice.ensures.value) c.is_empty.ensures
