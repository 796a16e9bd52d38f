use Rattle.cube_facts.specs.FactFile.{leaf_faults}
use Rattle.cube_facts.proofs.Turns.{handed_on, turn_fault, turn_next}
use Rattle.cube_facts.proofs.layout.check_leaves.Goals as goal

pub returns-in_err-check_leaf : goal.returns-in_err-check_leaf
returns-in_err-check_leaf c =
    handed_on _ _ c.in_err-check_leaf.field-0.0 _ c.from_residual.ensures.1
    (turn_fault (leaf_faults c.args.row (c.args.name.now, c.args.field.now)) _ _ _ _ c.args.dimensions.now c.loop-dimension.dimension-index c.dimension-item.result _ c.loop-dimension-test.true c.dimension-item.is c.loop-dimension.invariant c.in_err-check_leaf.ensures)

pub loop-dimension-preserved : goal.loop-dimension-preserved
loop-dimension-preserved c = turn_next (leaf_faults c.args.row (c.args.name.now, c.args.field.now)) _ _ c.args.dimensions.now c.loop-dimension.dimension-index c.dimension-item.result _ _ c.loop-dimension-test.true c.dimension-item.is c.loop-dimension.invariant c.in_ok-check_leaf.ensures
