use Rattle.std.proofs.Common.{inr, sym, ◌∙◌}
use Rattle.serde_json.specs.View.{view}
use Rattle.cube_audit.proofs.Reading.{too_many, few_enough, no_item, all_read}
use Rattle.cube_audit.proofs.transcript.read_values.Goals as goal

pub returns-then-values-gt-MOST_ITEMS-clause-said : goal.returns-then-values-gt-MOST_ITEMS-clause-said
returns-then-values-gt-MOST_ITEMS-clause-said c = inr (too_many view c.args.values.now c.if-values-gt-MOST_ITEMS.true)

pub returns-in-None-clause-said : goal.returns-in-None-clause-said
returns-in-None-clause-said c =
    let none = sym c.in-None.is ∙ c.in_ok-item.ensures in
    inr (few_enough view c.args.values.now c.if-values-gt-MOST_ITEMS.false
    ∙ sym c.values.invariant.read
    ∙ no_item view c.args.values.now c.values.number c.index-values-number.result c.values-test.true c.index-values-number.is c.values.items none)

pub returns-clause-said : goal.returns-clause-said
returns-clause-said c =
    few_enough view c.args.values.now c.if-values-gt-MOST_ITEMS.false
    ∙ sym c.values.invariant.read
    ∙ all_read view c.args.values.now c.values.number c.values.items c.values-test.false
