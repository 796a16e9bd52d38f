use Rattle.cube_facts.specs.FactFile.{number_faults}
use Rattle.cube_facts.proofs.Turns.{handed_on, turn_fault, turn_next}
use Rattle.cube_facts.proofs.layout.check_numbers.Goals as goal

pub returns-in_err-check_number : goal.returns-in_err-check_number
returns-in_err-check_number c =
    handed_on _ _ c.in_err-check_number.field-0.0 _ c.from_residual.ensures.1
    (turn_fault (number_faults c.args.row (c.args.name.now, c.args.field.now)) _ _ _ _ c.args.measures.now c.loop-measure.measure-index c.measure-item.result _ c.loop-measure-test.true c.measure-item.is c.loop-measure.invariant c.in_err-check_number.ensures)

pub loop-measure-preserved : goal.loop-measure-preserved
loop-measure-preserved c = turn_next (number_faults c.args.row (c.args.name.now, c.args.field.now)) _ _ c.args.measures.now c.loop-measure.measure-index c.measure-item.result _ _ c.loop-measure-test.true c.measure-item.is c.loop-measure.invariant c.in_ok-check_number.ensures
