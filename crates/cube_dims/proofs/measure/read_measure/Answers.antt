use Rattle.toml.specs.View.{table_view}
use Rattle.cube_tables.proofs.Turns.{handed_on}
use Rattle.cube_dims.proofs.Measures.{parts_refused, are_parts, naming_refused, decimals_refused, measure_said}
use Rattle.cube_dims.proofs.measure.read_measure.Goals as goal

pub returns-in_err-parts : goal.returns-in_err-parts
returns-in_err-parts c =
    handed_on _ _ c.in_err-parts.field-0.0 _ _ c.from_residual-in_err-parts.ensures.1
    (parts_refused c.args.dimensions.now c.args.earlier.now (table_view c.args.table.now) c.in_ok-entry.entry _ _ c.in_ok-entry.ensures c.in_err-parts.ensures)

pub returns-in_err-check_naming : goal.returns-in_err-check_naming
returns-in_err-check_naming c =
    let parts = are_parts c.args.earlier.now (table_view c.args.table.now) c.in_ok-entry.entry c.in_ok-parts.parts c.in_ok-entry.ensures c.in_ok-parts.ensures in
    handed_on _ _ c.in_err-check_naming.field-0.0 _ _ c.from_residual-in_err-check_naming.ensures.1
    (naming_refused c.args.dimensions.now c.args.earlier.now (table_view c.args.table.now) c.in_ok-entry.entry _ c.in_ok-parts.parts parts c.in_err-check_naming.ensures)

pub returns-in_err-decimals : goal.returns-in_err-decimals
returns-in_err-decimals c =
    let parts = are_parts c.args.earlier.now (table_view c.args.table.now) c.in_ok-entry.entry c.in_ok-parts.parts c.in_ok-entry.ensures c.in_ok-parts.ensures in
    handed_on _ _ c.in_err-decimals.field-0.0 _ _ c.from_residual-in_err-decimals.ensures.1
    (decimals_refused c.args.dimensions.now c.args.earlier.now (table_view c.args.table.now) c.in_ok-entry.entry _ c.in_ok-parts.parts parts c.in_ok-check_naming.ensures c.in_err-decimals.ensures)

pub returns : goal.returns
returns c =
    let parts = are_parts c.args.earlier.now (table_view c.args.table.now) c.in_ok-entry.entry c.in_ok-parts.parts c.in_ok-entry.ensures c.in_ok-parts.ensures in
    measure_said c.args.dimensions.now c.args.earlier.now (table_view c.args.table.now) c.in_ok-entry.entry c.in_ok-parts.parts c.in_ok-decimals.decimals c.from_parts.result parts c.in_ok-check_naming.ensures c.in_ok-decimals.ensures c.from_parts.ensures
