use Rattle.std.proofs.Common.{◌≡◌, true, sym, subst}
use Rattle.cube_model.specs.declared.cell.Cell.{Cell}
use Rattle.cube_model.specs.Cores.{shown}
use Rattle.cube_model.specs.Reasons as said
use Rattle.cube_model.specs.Reasons.Reason.{Blocks}
use Rattle.cube_reason.proofs.Refusals.{blocks_there, blocks_reason}
use Rattle.cube_reason.proofs.reasoning.reason_by_blocks.Goals as goal

pub find_blocks-requires-clause-blocks : goal.find_blocks-requires-clause-blocks
find_blocks-requires-clause-blocks c = (blocks_there (shown c.args.case.now.core.now c.args.case.now.policy.now) c.args.case.now.history.now c.args.case.now.request.now c.args.measure c.args.verdict.now c.args.cell.now c.requires.judged.admissible c.requires.what c.requires.judged.verdict c.requires.cell).has

pub returns-clause-reason : goal.returns-clause-reason
returns-clause-reason c =
    let g = shown c.args.case.now.core.now c.args.case.now.policy.now in
    let way = (blocks_there g c.args.case.now.history.now c.args.case.now.request.now c.args.measure c.args.verdict.now c.args.cell.now c.requires.judged.admissible c.requires.what c.requires.judged.verdict c.requires.cell).way in
    subst (λ (t : Cell). said.is_reason g c.args.case.now.history.now c.args.case.now.request.now (Blocks t c.in_ok-blocks.blocks) ≡ true) (sym c.in_ok-cell.ensures) (blocks_reason g c.args.case.now.history.now c.args.case.now.request.now c.args.measure c.args.cell.now c.in_ok-blocks.blocks c.requires.what way c.in_ok-blocks.ensures.blocks)
