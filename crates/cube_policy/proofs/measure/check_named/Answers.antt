use Rattle.std.proofs.Common.{not, sym, ap, ◌∙◌}
use Rattle.std.specs.List.{list_any}
use Rattle.std.specs.Str.{bytes_eq}
use Rattle.cube_model.specs.Dims.{measure_names}
use Rattle.cube_tables.proofs.Turns.{next, both_nothing, check_fault, check_none, answered}
use Rattle.cube_policy.specs.PolicyFile.{method_of}
use Rattle.cube_policy.specs.declared.fault.PolicyFault.TheVariants.{MeasureTwice}
use Rattle.cube_policy.specs.declared.measure.Declared.{Declared}
use Rattle.cube_policy.proofs.Found.{found_told, some_told}
use Rattle.cube_policy.proofs.measure.check_named.Goals as goal

pub returns-then-is_declared : goal.returns-then-is_declared
returns-then-is_declared c =
    let known = found_told (measure_names c.args.dims.now) _ _ c.find_measure.result _ c.find_measure.ensures c.as_slice.ensures c.is_none.ensures ∙ ap (λ b. not (not b)) c.if-is_none.false in
    let word = some_told _ _ (c.in-Some.ensures ∙ ap method_of c.as_slice-2.ensures) in
    answered _ _ _ _ (next _ _ _ _ (both_nothing _ _ (check_none _ _ known) (check_none _ _ word))
    (check_fault _ _ _ _ (ap (λ x. list_any (λ (d : Declared). bytes_eq x d.name) c.args.earlier.now) (sym c.as_slice-3.ensures) ∙ sym c.is_declared.ensures ∙ c.if-is_declared.true) (ap MeasureTwice (sym c.in_ok-key_text-3.ensures))))
