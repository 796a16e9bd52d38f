use Rattle.std.proofs.Common.{◌≡◌, Bool, sym, ap, ◌∙◌}
use Rattle.std.proofs.lemmas.Result.{IfOk-weaker}
use Rattle.cube_model.specs.declared.request.What.{What}
use Rattle.cube_model.specs.Cores.{shown}
use Rattle.cube_model.specs.Protection.{method}
use Rattle.cube_model.specs.Reasons.{is_reason_by, is_reason_on}
use Rattle.cube_model.proofs.Reasoned.{reason_refuses}
use Rattle.cube_reason.specs.Given.{RefusesWhere}
use Rattle.cube_reason.specs.Views.{reason_view}
use Rattle.cube_reason.proofs.Accepted.{measure_there}
use Rattle.cube_reason.proofs.accepting.accept.Goals as goal

pub accept_on-requires-clause-measure : goal.accept_on-requires-clause-measure
accept_on-requires-clause-measure c = measure_there c.args.core.now c.args.policy.now c.args.request.now c.in-Measure.measure c.requires.policy c.requires.valid c.in-Measure.is

pub returns-in-Measure-clause-refuses : goal.returns-in-Measure-clause-refuses
returns-in-Measure-clause-refuses c =
    let g = shown c.args.core.now c.args.policy.now in
    let h = c.args.history.now in
    let r = c.args.request.now in
    let x = reason_view c.args.reason.now in
    let m = c.in-Measure.measure in
    IfOk-weaker c.accept_on.result (λ (taken : Bool). taken ≡ is_reason_by (method g m) g h r m x) (RefusesWhere g h r)
    (λ taken e given adm fresh v. reason_refuses g h r x fresh adm (ap (λ (w : What). is_reason_on w g h r x) c.in-Measure.is ∙ sym e ∙ given) v) c.accept_on.ensures
