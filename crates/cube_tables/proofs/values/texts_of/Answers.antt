use Rattle.std.proofs.Common.{map}
use Rattle.toml.specs.View.{view}
use Rattle.cube_tables.proofs.Items.{items_list-items_of}
use Rattle.cube_tables.proofs.values.texts_of.Goals as goal

pub returns-in-Some : goal.returns-in-Some
returns-in-Some c =
    let found = rw c.in-Some.is at c.as_array.ensures in
    let read = rw c.as_slice.ensures.value at c.texts_in.ensures in
    rw (← found, items_list-items_of (map view c.in-Some.items.now.items)) read
