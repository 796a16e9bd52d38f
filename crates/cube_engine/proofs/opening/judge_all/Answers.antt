use Rattle.cube_engine.proofs.Logs.{allowed_at}
use Rattle.cube_engine.proofs.opening.judge_all.Goals as goal

pub take-requires-clause-allowed : goal.take-requires-clause-allowed
take-requires-clause-allowed c = allowed_at c.args.core.now c.args.policy.now c.args.entries.now c.entries.number c.index-entries-number.result c.requires.policy c.requires.sound c.entries-test.true c.index-entries-number.is
