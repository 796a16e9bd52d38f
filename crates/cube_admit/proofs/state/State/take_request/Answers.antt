use Rattle.std.proofs.Common.{sym, ap, ◌∙◌}
use Rattle.cube_model.specs.Cores.{shown}
use Rattle.cube_model.specs.Verdicts.{taken_by}
use Rattle.cube_admit.proofs.Taking.{request_taken}
use Rattle.cube_admit.proofs.state.State.take_request.Goals as goal

pub returns-clause-taken : goal.returns-clause-taken
returns-clause-taken c = c.taken_by.ensures ∙ ap taken_by c.in_ok-verdict.ensures.verdict ∙ sym (request_taken (shown c.args.core.now c.args.policy.now) c.args.self.now.history c.args.request.now)
