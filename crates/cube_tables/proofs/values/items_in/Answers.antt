use Rattle.std.proofs.Common.{map, refl}
use Rattle.toml.specs.View.{view}
use Rattle.cube_tables.proofs.Items.{items_list-items_of}
use Rattle.cube_tables.proofs.values.items_in.Goals as goal

pub returns-in-Some : goal.returns-in-Some
returns-in-Some c =
    let found = rw c.in-Some.is at c.as_array.ensures in
    rw (← found, items_list-items_of (map view c.in-Some.items.now.items), c.as_slice.ensures.value) refl
