use Rattle.std.proofs.Common.{sym, ap, ◌∙◌}
use Rattle.cube_model.specs.Cores.{shown}
use Rattle.cube_model.specs.Entries.{is_allowed}
use Rattle.cube_admit.proofs.Taking.{request_allowed}
use Rattle.cube_admit.proofs.state.State.take.Goals as goal

pub take_request-requires-clause-valid : goal.take_request-requires-clause-valid
take_request-requires-clause-valid c =
    let g = shown c.args.core.now c.args.policy.now in
    request_allowed g c.in-Asked.request (sym (ap (is_allowed g) c.in-Asked.is) ∙ c.requires.allowed)
