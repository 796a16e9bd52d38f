use Rattle.std.proofs.Common.{◌∙◌, ap, sym, ◌<◌, arith, length, get_or, Ok, w64, SFits, rules}
use Rattle.std.proofs.lemmas.Int.{to_z-of_z}
use Rattle.std.proofs.lemmas.List.Elements.{All-push}
use Rattle.csv.specs.Records.{fields_of}
use Rattle.cube_text.specs.Units.{units_of}
use Rattle.cube_facts.specs.FactFile.{field_in}
use Rattle.cube_facts.specs.Table.{IsUnits}
use Rattle.cube_facts.proofs.Recorded.{measure_column}
use Rattle.cube_facts.proofs.Turns.{said_more}
use Rattle.cube_facts.proofs.layout.Layout.take_units.Goals as goal

pub loop-number-preserved : goal.loop-number-preserved
loop-number-preserved c =
    let s = c.args.self.now.dims.now in
    let header = c.args.self.now.header in
    let fields = fields_of c.args.row.now in
    let i = c.loop-number.number in
    let m = c.measure-item.result in
    let items = c.measures-measure-items.ensures.measures in
    let long = ap length items in
    let l : i < length s.measures = omega (arith, long, c.loop-number-test.true) in
    let at = c.measure-item.is ∙ ap (λ xs. get_or xs i m) items in
    let column = c.field_under.ensures ∙ ap (field_in header fields) (measure_column s (length c.dimensions-first.result.now) i m (ap length c.dimensions-first.ensures.dimensions) l at) in
    let range : SFits w64 c.in-Ok.unit = search rules in
    let pushed = rw (to_z-of_z w64 c.in-Ok.unit range) at c.in_ok-push_unit.ensures in
    let value = ap (units_of m.decimals) (sym column) ∙ sym c.find_units.ensures.said ∙ c.in-Ok.is in
    let bound = rw c.in-Ok.is at c.find_units.ensures.bounded in
    record {
      said = said_more (λ m. units_of m.decimals (field_in header fields m.column)) Ok s.measures i m c.loop-number.units.items c.push_unit.new.units.items c.in-Ok.unit l at c.loop-number.invariant.said value pushed;
      bounded = rw pushed (All-push IsUnits c.loop-number.units.items c.in-Ok.unit c.loop-number.invariant.bounded bound);
    }
