use Rattle.std.proofs.Common.{◌∙◌}
use Rattle.cube_model.specs.Cores.{shown}
use Rattle.cube_reason.proofs.Numbers.{ties_are, ties_places}
use Rattle.cube_reason.proofs.ties.ties.Goals as goal

pub returns-clause-ties : goal.returns-clause-ties
returns-clause-ties c = ties_are (shown c.args.case.now.core.now c.args.case.now.policy.now) c.args.case.now.history.now c.args.case.now.request.now c.args.measure c.as_slice.result.now c.tie_history.new.ties.items c.tie_own.new.ties.items (c.as_slice.ensures ∙ c.in_ok-links.ensures) c.in_ok-tie_history.ensures c.in_ok-tie_own.ensures

pub returns-clause-places : goal.returns-clause-places
returns-clause-places c = ties_places (shown c.args.case.now.core.now c.args.case.now.policy.now) c.args.case.now.history.now c.args.case.now.request.now c.args.measure c.as_slice.result.now c.tie_history.new.ties.items c.tie_own.new.ties.items (c.as_slice.ensures ∙ c.in_ok-links.ensures) c.in_ok-tie_history.ensures c.in_ok-tie_own.ensures c.requires.case.allowed
