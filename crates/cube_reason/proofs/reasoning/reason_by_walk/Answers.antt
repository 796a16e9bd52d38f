use Rattle.std.proofs.Common.{[]}
use Rattle.cube_model.specs.Cores.{shown}
use Rattle.cube_model.proofs.Histories.{admissible_allowed}
use Rattle.cube_reason.proofs.Refusals.{walk_there, walk_reason, walk_told}
use Rattle.cube_reason.proofs.reasoning.reason_by_walk.Goals as goal

pub find_walk-requires-clause-walk : goal.find_walk-requires-clause-walk
find_walk-requires-clause-walk c = (walk_there (shown c.args.case.now.core.now c.args.case.now.policy.now) c.args.case.now.history.now c.args.case.now.request.now c.args.measure c.args.verdict.now c.args.place c.requires.judged.admissible c.requires.what c.requires.judged.verdict c.requires.place).has

pub returns-clause-reason : goal.returns-clause-reason
returns-clause-reason c =
    let g = shown c.args.case.now.core.now c.args.case.now.policy.now in
    let way = (walk_there g c.args.case.now.history.now c.args.case.now.request.now c.args.measure c.args.verdict.now c.args.place c.requires.judged.admissible c.requires.what c.requires.judged.verdict c.requires.place).way in
    walk_reason g c.args.case.now.history.now c.args.case.now.request.now c.args.measure c.args.place _ _ c.requires.what way c.in_ok-found.ensures

pub returns-clause-told : goal.returns-clause-told
returns-clause-told c =
    let g = shown c.args.case.now.core.now c.args.case.now.policy.now in
    walk_told g c.args.case.now.history.now c.args.case.now.request.now c.args.measure c.args.place c.in_ok-found.found.0 c.in_ok-found.found.1 (admissible_allowed g [] c.args.case.now.history.now c.requires.judged.admissible) c.in_ok-found.ensures
