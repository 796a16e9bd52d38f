use Rattle.toml.specs.View.{table_view}
use Rattle.cube_dims.proofs.Whole.{rules_kept}
use Rattle.cube_tables.proofs.Turns.{nothing, value}
use Rattle.cube_dims.proofs.read.read_in.Goals as goal

pub from_parts-requires : goal.from_parts-requires
from_parts-requires c =
    rules_kept (table_view c.args.table.now) _ _ _ _ _ _ c.items_under.ensures c.items_under-2.ensures
    (nothing _ _ _ c.in_ok-check_some_tables.ensures) (nothing _ _ _ c.in_ok-check_some_tables-2.ensures)
    (nothing _ _ _ c.in_ok-dimensions.ensures) (value _ _ _ c.in_ok-dimensions.ensures)
    c.as_slice.ensures (nothing _ _ _ c.in_ok-check_cuboids.ensures)
    c.as_slice-2.ensures (nothing _ _ _ c.in_ok-measures.ensures) (value _ _ _ c.in_ok-measures.ensures)
