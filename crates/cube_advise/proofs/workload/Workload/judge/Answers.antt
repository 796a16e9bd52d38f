use Rattle.std.proofs.Common.{◌≡◌, true, Option, IfSome, subst}
use Rattle.cube_model.specs.declared.request.Request.{Request}
use Rattle.cube_model.specs.Dims.{Dims}
use Rattle.cube_query.specs.Canonical.{is_request}
use Rattle.cube_advise.proofs.Reading.{valid_under}
use Rattle.cube_advise.proofs.workload.Workload.judge.Goals as goal

pub judge_request-requires-clause-valid : goal.judge_request-requires-clause-valid
judge_request-requires-clause-valid c =
    valid_under c.args.core.now c.args.policy.now c.in-Some.request c.requires.policy
    (subst (λ (s : Dims). is_request s c.in-Some.request ≡ true) c.dims.ensures.dims
    (subst (λ (o : Option Request). IfSome o (λ r. is_request c.dims.result.now r ≡ true)) c.in-Some.is c.in_ok-read_line.ensures.valid))
