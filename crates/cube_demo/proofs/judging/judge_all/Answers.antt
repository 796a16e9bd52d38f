use Rattle.std.proofs.Common.{◌≡◌, true, subst, sym}
use Rattle.cube_model.specs.declared.request.Request.{Request}
use Rattle.cube_query.specs.Canonical.{is_request}
use Rattle.cube_engine.proofs.Named.{valid_under}
use Rattle.cube_demo.proofs.judging.judge_all.Goals as goal

pub judge-requires-clause-valid : goal.judge-requires-clause-valid
judge-requires-clause-valid c =
    let valid = subst (λ (r : Request). is_request c.args.core.now.dims r ≡ true) (sym c.request-item.is) (c.requires.valid c.requests.request-index c.request-item.result c.requests-test.true) in
    valid_under c.args.core.now c.args.policy.now c.request-item.result c.requires.policy valid
