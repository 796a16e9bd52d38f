use Rattle.std.proofs.Common.{ap}
use Rattle.cube_io.specs.States.{State}
use Rattle.cube_journal.proofs.OpeningSteps.{trim_lines}
use Rattle.cube_journal.proofs.opening.cut_back.Goals as goal

pub returns-else-end-bytes-clause-trail : goal.returns-else-end-bytes-clause-trail
returns-else-end-bytes-clause-trail g c = λ told. trim_lines c.args.end c.args.bytes.now ((g.S.Store.state c.args.store.now).logs c.args.log) ((g.S.Store.state c.trim.new.store).logs c.args.log) c.requires.ended c.requires.rest (ap (λ (x : State). x.now) (c.requires.settled told)) (c.trim.ensures.trail told)
