use Rattle.std.proofs.Common.{map, List, ℕ, sym, ap, ◌∙◌}
use Rattle.std.specs.Prelude.{unwrap_or}
use Rattle.cube_model.specs.Dims.{NamedMeasure}
use Rattle.cube_model.specs.declared.policy.Method.TheVariants.{Plain}
use Rattle.cube_tables.proofs.Turns.{check_fault, check_none, answered, accepted, turn_end}
use Rattle.cube_tables.proofs.Loops.{item_fault, item_next, item_made, all_made, seen_within, seen_at, seen_end}
use Rattle.cube_policy.specs.PolicyFile.{stated, unnamed}
use Rattle.cube_policy.specs.declared.fault.PolicyFault.TheVariants.{Missing}
use Rattle.cube_policy.proofs.Found.{missed, some_told}
use Rattle.cube_policy.proofs.measure.read_methods.Goals as goal

abbrev name_of : NamedMeasure → List ℕ
name_of m = m.name

pub returns-in-None : goal.returns-in-None
returns-in-None c =
    let items = c.args.measures.now in
    let i = c.loop-measure.measure-index in
    let item = c.measure-item.result in
    answered _ _ _ _
    (item_fault (unnamed c.args.declared.now) (map name_of items) _ _ i item.name (seen_within name_of items i c.loop-measure-test.true) (seen_at name_of items i item c.loop-measure-test.true c.measure-item.is) c.loop-measure.invariant.none
    (check_fault _ _ _ _ (missed _ (c.in-None.ensures ∙ ap (stated c.args.declared.now) c.name.ensures.name)) (ap Missing (sym (c.in_ok-from_bytes-in-None.ensures ∙ c.name-in-None.ensures.name)))))

pub loop-measure-preserved : goal.loop-measure-preserved
loop-measure-preserved c =
    let items = c.args.measures.now in
    let i = c.loop-measure.measure-index in
    let item = c.measure-item.result in
    let found = c.in-Some.ensures ∙ ap (stated c.args.declared.now) c.name.ensures.name in
    let within = seen_within name_of items i c.loop-measure-test.true in
    let at = seen_at name_of items i item c.loop-measure-test.true c.measure-item.is in
    record {
      none = item_next (unnamed c.args.declared.now) (map name_of items) i item.name within at c.loop-measure.invariant.none (check_none _ _ (some_told _ _ found));
      made = c.in_ok-push-in-Some.ensures.ok ∙ item_made (λ x. unwrap_or (stated c.args.declared.now x) Plain) (map name_of items) i item.name c.in-Some.method c.loop-measure.methods within at c.loop-measure.invariant.made (ap (λ o. unwrap_or o Plain) found);
    }

pub returns : goal.returns
returns c =
    let items = c.args.measures.now in
    let i = c.loop-measure.measure-index in
    let end = seen_end name_of items i c.loop-measure-test.false in
    accepted _ _ _ (turn_end (unnamed c.args.declared.now) (map name_of items) i end c.loop-measure.invariant.none)
    (all_made (λ x. unwrap_or (stated c.args.declared.now x) Plain) (map name_of items) i c.loop-measure.methods end c.loop-measure.invariant.made)
