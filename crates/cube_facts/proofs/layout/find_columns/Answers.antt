use Rattle.std.proofs.Common.{◌∙◌, ap, sym, ◌++◌, ◌∷◌, [], unwrap_or}
use Rattle.cube_model.specs.Dims.{found}
use Rattle.cube_facts.specs.FactFile.{column_faults}
use Rattle.cube_facts.proofs.Turns.{handed_on, turn_fault, turn_next, value, one_more}
use Rattle.cube_facts.proofs.layout.find_columns.Goals as goal

pub returns-in_err-find_column : goal.returns-in_err-find_column
returns-in_err-find_column c =
    handed_on _ _ c.in_err-find_column.field-0.0 _ c.from_residual.ensures.1
    (turn_fault (column_faults c.args.header.now) _ _ _ _ c.args.names.now c.loop-name.name-index c.name-item.result _ c.loop-name-test.true c.name-item.is c.loop-name.invariant.checked (rw c.as_slice.ensures at c.in_err-find_column.ensures))

pub loop-name-preserved : goal.loop-name-preserved
loop-name-preserved c =
    let said = rw c.as_slice.ensures at c.in_ok-find_column.ensures in
    record {
      checked = turn_next (column_faults c.args.header.now) _ _ c.args.names.now c.loop-name.name-index c.name-item.result _ _ c.loop-name-test.true c.name-item.is c.loop-name.invariant.checked said;
      found = one_more (λ name. unwrap_or (found name c.args.header.now) 0) _ _ c.args.names.now c.loop-name.name-index c.name-item.result c.loop-name-test.true c.name-item.is c.loop-name.invariant.found
          (c.in_ok-push.ensures.ok ∙ ap (λ x. c.loop-name.places ++ x ∷ []) (sym (value _ _ _ said)));
    }
