use Rattle.cube_reason.specs.Cases.{public_of}
use Rattle.cube_reason.proofs.Refusals.{count_refused}
use Rattle.cube_reason.proofs.reasoning.find_reason.Goals as goal

pub unreachable-requires : goal.unreachable-requires
unreachable-requires c = count_refused (public_of c.args.case.now) c.args.case.now.history.now c.args.case.now.request.now c.args.verdict.now c.in-Count.is c.requires.judged.verdict c.requires.refuses
