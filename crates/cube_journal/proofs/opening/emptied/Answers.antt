use Rattle.std.proofs.Common.{ap}
use Rattle.cube_io.specs.States.{State}
use Rattle.cube_journal.proofs.OpeningSteps.{cut_head}
use Rattle.cube_journal.proofs.opening.emptied.Goals as goal

pub returns-else-is_empty-clause-trail : goal.returns-else-is_empty-clause-trail
returns-else-is_empty-clause-trail g c = λ told. cut_head c.args.head.now c.args.bytes.now ((g.S.Store.state c.args.store.now).logs c.args.log) ((g.S.Store.state c.trim.new.store).logs c.args.log) c.requires.starts (ap (λ (x : State). x.now) (c.requires.settled told)) (c.trim.ensures.trail told)
