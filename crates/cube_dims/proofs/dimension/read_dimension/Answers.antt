use Rattle.toml.specs.View.{table_view}
use Rattle.cube_tables.proofs.Turns.{handed_on}
use Rattle.cube_dims.proofs.Dimensions.{parts_refused, are_parts, members_refused, keeps_rules, dimension_said}
use Rattle.cube_dims.proofs.dimension.read_dimension.Goals as goal

pub returns-in_err-parts : goal.returns-in_err-parts
returns-in_err-parts c =
    handed_on _ _ c.in_err-parts.field-0.0 _ _ c.from_residual-in_err-parts.ensures.1
    (parts_refused c.args.earlier.now (table_view c.args.table.now) c.in_ok-entry.entry _ _ c.in_ok-entry.ensures c.in_err-parts.ensures)

pub check_parts-requires : goal.check_parts-requires
check_parts-requires c = (are_parts c.args.earlier.now (table_view c.args.table.now) c.in_ok-entry.entry c.in_ok-parts.parts c.in_ok-entry.ensures c.in_ok-parts.ensures).has_levels

pub returns-in_err-members : goal.returns-in_err-members
returns-in_err-members c =
    let parts = are_parts c.args.earlier.now (table_view c.args.table.now) c.in_ok-entry.entry c.in_ok-parts.parts c.in_ok-entry.ensures c.in_ok-parts.ensures in
    handed_on _ _ c.in_err-members.field-0.0 _ _ c.from_residual-in_err-members.ensures.1
    (members_refused c.args.earlier.now (table_view c.args.table.now) c.in_ok-entry.entry _ c.in_ok-parts.parts _ parts c.in_err-members.ensures)

pub into_dimension-requires-clause-rules : goal.into_dimension-requires-clause-rules
into_dimension-requires-clause-rules c =
    let parts = are_parts c.args.earlier.now (table_view c.args.table.now) c.in_ok-entry.entry c.in_ok-parts.parts c.in_ok-entry.ensures c.in_ok-parts.ensures in
    keeps_rules c.args.earlier.now (table_view c.args.table.now) c.in_ok-entry.entry c.in_ok-parts.parts _ _ parts c.in_ok-members.ensures

pub returns : goal.returns
returns c =
    let parts = are_parts c.args.earlier.now (table_view c.args.table.now) c.in_ok-entry.entry c.in_ok-parts.parts c.in_ok-entry.ensures c.in_ok-parts.ensures in
    dimension_said c.args.earlier.now (table_view c.args.table.now) c.in_ok-entry.entry c.in_ok-parts.parts c.into_dimension.result _ _ parts c.in_ok-members.ensures c.into_dimension.ensures
