use Rattle.std.proofs.Common.{◌∙◌, ap, ◌<◌, ◌≤◌, arith, length, get_or, zip, flat_map}
use Rattle.std.proofs.lemmas.List.{drop_all}
use Rattle.csv.specs.Records.{fields_of}
use Rattle.cube_model.specs.Checks.{unless}
use Rattle.cube_facts.specs.FactFile.{field_faults}
use Rattle.cube_facts.proofs.Recorded.{zip_item, zip_long, field_read}
use Rattle.cube_facts.proofs.Turns.{handed_on, turn_fault, turn_next}
use Rattle.cube_facts.proofs.layout.Layout.check_fields.Goals as goal

pub returns-in_err-check_field : goal.returns-in_err-check_field
returns-in_err-check_field c =
    let header = c.args.self.now.header in
    let fields = fields_of c.args.row.now in
    let i = c.loop-column.column in
    let items = c.as_slice-name-items.ensures in
    let long = ap length items in
    let l : i < length header = omega (arith, long, c.loop-column-test.true) in
    let name = c.name-item.is ∙ ap (λ xs. get_or xs i c.name-item.result) items in
    let field = c.field_of.ensures ∙ field_read fields i in
    let at = zip_item header fields i c.name-item.result c.field_of.result.now l c.requires name field in
    let within : i < length (zip header fields) = omega (arith, l, zip_long header fields c.requires) in
    handed_on _ _ c.in_err-check_field.field-0.0 _ c.from_residual.ensures.1
    (turn_fault (field_faults c.args.self.now.dims.now c.args.number) _ _ _ _ (zip header fields) i (c.name-item.result, c.field_of.result.now) _ within at c.loop-column.invariant (rw c.as_slice.ensures at c.in_err-check_field.ensures))

pub loop-column-preserved : goal.loop-column-preserved
loop-column-preserved c =
    let header = c.args.self.now.header in
    let fields = fields_of c.args.row.now in
    let i = c.loop-column.column in
    let items = c.as_slice-name-items.ensures in
    let long = ap length items in
    let l : i < length header = omega (arith, long, c.loop-column-test.true) in
    let name = c.name-item.is ∙ ap (λ xs. get_or xs i c.name-item.result) items in
    let field = c.field_of.ensures ∙ field_read fields i in
    let at = zip_item header fields i c.name-item.result c.field_of.result.now l c.requires name field in
    let within : i < length (zip header fields) = omega (arith, l, zip_long header fields c.requires) in
    turn_next (field_faults c.args.self.now.dims.now c.args.number) _ _ (zip header fields) i (c.name-item.result, c.field_of.result.now) _ _ within at c.loop-column.invariant (rw c.as_slice.ensures at c.in_ok-check_field.ensures)

pub returns : goal.returns
returns c =
    let header = c.args.self.now.header in
    let fields = fields_of c.args.row.now in
    let long = ap length c.as_slice-name-items.ensures in
    let past : length (zip header fields) ≤ c.loop-column.column = omega (arith, long, zip_long header fields c.requires, c.loop-column-test.false) in
    c.loop-column.invariant ∙ ap (λ es. unless (flat_map (field_faults c.args.self.now.dims.now c.args.number) es) (tt {0})) (drop_all c.loop-column.column (zip header fields) past)
