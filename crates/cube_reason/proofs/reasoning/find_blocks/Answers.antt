use Rattle.cube_model.specs.Requests.{grain}
use Rattle.cube_model.specs.Verdicts.{narrowed, source}
use Rattle.cube_reason.proofs.Refusals.{made_levels, made_own, blocks_told}
use Rattle.cube_reason.proofs.reasoning.find_blocks.Goals as goal

pub blocks_of-requires-clause-cell : goal.blocks_of-requires-clause-cell
blocks_of-requires-clause-cell c = made_levels c.args.case.now.core.now c.args.case.now.policy.now c.args.measure (narrowed (source c.args.case.now.history.now c.args.measure) (grain c.args.case.now.request.now)) c.args.cell.now c.requires.blocks.blocks c.requires.case.policy c.requires.blocks.is

pub returns-clause-blocks : goal.returns-clause-blocks
returns-clause-blocks c = made_own c.args.case.now.core.now c.args.case.now.policy.now c.args.measure (narrowed (source c.args.case.now.history.now c.args.measure) (grain c.args.case.now.request.now)) c.in_ok-levels.levels c.args.cell.now c.requires.blocks.blocks c.in_ok-blocks.blocks c.requires.blocks.is c.in_ok-levels.ensures.levels c.in_ok-blocks.ensures

pub returns-clause-told : goal.returns-clause-told
returns-clause-told c = blocks_told c.args.case.now.core.now c.in_ok-levels.levels c.args.cell.now c.in_ok-blocks.blocks c.dims-rules.ensures.rules c.in_ok-levels.ensures.there c.in_ok-blocks.ensures
